-- `pitch_text::put_lines` meets its contract. The invariant: the lines of the rows before i are written.
use Rattle.std.proofs.Common.{refl, ap, ◌∙◌, arith}
use Rattle.pitch_table.specs.Row.{row_at}
use Rattle.pitch_text.specs.Text.{line_text}
use Rattle.pitch_text.specs.TextLaws.{put_then, put_as, put_none, lines_none, lines_next}
use Rattle.pitch_text.proofs.put_lines.Goals as goal

pub loop-i-init : goal.loop-i-init
loop-i-init c = (refl, omega arith, put_as (put_none c.args.out.now c.args.at) (lines_none _ _))

pub loop-i-preserved : goal.loop-i-preserved
loop-i-preserved c =
    let a = c.args in
    let l = c.loop-i in
    let e = c.put_line-p.ensures in
    let r = ap (line_text l.i a.nb) c.get_row.ensures in (
      c.put_line-p.auto.out ∙ l.invariant.0,
      omega (arith, e.1, l.invariant.1),
      put_as (put_then l.invariant.2 (put_as e.0 r)) (lines_next a.nb (row_at a.rows.now) l.i),
    )
