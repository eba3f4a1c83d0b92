-- `pitch_text::put_line` meets its contract.
use Rattle.std.proofs.Common.{arith, length-set}
use Rattle.pitch_text.specs.Text.{line_text}
use Rattle.pitch_text.specs.DecimalLaws.{digits_word}
use Rattle.pitch_text.specs.TextLaws.{put_then, put_byte}
use Rattle.pitch_text.proofs.put_line.Goals as goal

pub put_digits-p-requires : goal.put_digits-p-requires
put_digits-p-requires c = omega (arith, digits_word _ c.ranges.i)

pub bounds-out-p : goal.bounds-out-p
bounds-out-p c = omega (arith, digits_word _ c.ranges.i)

pub overflow_add-p : goal.overflow_add-p
overflow_add-p c = omega (arith, digits_word _ c.ranges.i)

pub put_row_text-requires : goal.put_row_text-requires
put_row_text-requires c = (c.requires.0, rw length-set (omega (arith, digits_word _ c.ranges.i)))

pub returns : goal.returns
unfolding line_text
returns c =
    let e = c.put_row_text.ensures in
    (put_then c.put_digits-p.ensures (put_then (put_byte _ _ 32) e.0), omega (arith, digits_word _ c.ranges.i))
