-- The sum of the subframes so far.
use Rattle.std.proofs.Common.{◌≡◌, ℕ}
use Rattle.stage3.specs.Stage3.{sat_sum}
use Rattle.stage3.specs.Search.{at3}
use Rattle.stage3.proofs.sum_subframes.Given as goal

abbrev pub invariant-loop-subframe : goal.invariant-loop-subframe
invariant-loop-subframe l = l.sum ≡ sat_sum l.from (λ (q : ℕ). at3 l.values q l.j l.lag_counter) l.subframe-index
