-- `pitch_text::letter` meets its contract.
use Rattle.std.proofs.Common.{◌≡◌, pos, arith}
use Rattle.std.proofs.lemmas.Int.{ints}
use Rattle.zint.specs.EqualLaws.{eq_z_yes, eq_z_no}
use Rattle.pitch_text.specs.Text.{letter_of}
use Rattle.pitch_text.proofs.letter.Goals as goal

pub returns-in-0 : goal.returns-in-0
unfolding letter_of
returns-in-0 c =
    let e : c.args.verdict ≡ pos 0 = omega (arith, ints) in
    rw (eq_z_yes e)

pub returns-in-1 : goal.returns-in-1
unfolding letter_of
returns-in-1 c =
    let e : c.args.verdict ≡ pos 1 = omega (arith, ints) in
    rw (eq_z_no {z = c.args.verdict} {y = pos 0} (λ k. absurd (omega (arith, ints, k))), eq_z_yes e)

pub returns-in_default : goal.returns-in_default
unfolding letter_of
returns-in_default c =
    rw (eq_z_no {z = c.args.verdict} {y = pos 0} (λ k. absurd (omega (arith, ints, k))), eq_z_no {z = c.args.verdict} {y = pos 1} (λ k. absurd (omega (arith, ints, k))))
