-- The greatest index is at most 256.
use Rattle.std.proofs.Common.{◌≤◌}
use Rattle.cases_lags.proofs.all_indices.Given as goal

abbrev pub invariant-loop-index : goal.invariant-loop-index
invariant-loop-index l = l.index-end ≤ 257
