-- `frame_signals::frame_shift` meets its contract.
use Rattle.std.proofs.Common.{◌≡◌, ap, ap₂, ◌∙◌, length, take, take_all, ℕ, ◌+◌, ◌/◌, ◌<◌, arith}
use Rattle.silk_sigproc.specs.SumSqr.{excess}
use Rattle.silk_sigproc.specs.SumSqrLaws.{excess_within}
use Rattle.frame_signals.specs.Scale.{down_shift}
use Rattle.frame_signals.proofs.frame_shift.Goals as goal

over-lt : (c : goal.After-bits_over) → c.bits_over.result < 31
over-lt c =
    let s = c.silk_sum_sqr_shift-sum in
    omega (arith, c.bits_over.ensures, excess_within s.result.energy s.result.shift s.ensures.energy_bound.0, s.ensures.energy_bound.1)

pub overflow_add-result : goal.overflow_add-result
overflow_add-result c = omega (arith, over-lt c)

pub returns : goal.returns
unfolding down_shift
returns c =
    let s = c.silk_sum_sqr_shift-sum in
    let x = c.args.frame.now in
    let e : take (length x) x ≡ x = take_all (length x) x (omega arith) in
    (ap (λ (k : ℕ). (k + 1) / 2) (c.bits_over.ensures ∙ ap₂ excess s.ensures.energy_value.0 s.ensures.energy_value.1) ∙ ap down_shift e, omega (arith, over-lt c))
