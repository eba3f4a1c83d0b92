-- The invariants of `sum_pairs`.
use Rattle.std.proofs.Common.{◌≤◌}
use Rattle.silk_sigproc.specs.SumSqrLaws.{Summed}
use Rattle.silk_sigproc.proofs.sum_pairs.Given as goal

abbrev pub invariant-loop-k : goal.invariant-loop-k
invariant-loop-k l = (l.k ≤ l.k-end) × Summed l.x l.shift l.k l.sum
