-- The invariants of `by_subframe`.
use Rattle.std.proofs.Common.{◌≡◌, ℕ, pos, replicate}
use Rattle.lists.specs.Fill.{filled}
use Rattle.silk_tables.specs.Tables.{in_use}
use Rattle.stage3_arrays.specs.Arrays.{subframe_array, numbers_at}
use Rattle.stage3_arrays.proofs.by_subframe.Given as goal

abbrev pub invariant-loop-k : goal.invariant-loop-k
invariant-loop-k g l =
    l.measured ≡ filled (λ (q : ℕ). subframe_array (in_use l.at.codebook.nb l.at.codebook.complexity) (numbers_at (g.M.Measure.number l.at.frame.now) l.at.fs_khz l.at.codebook.nb l.at.codebook.complexity l.at.start_lag q)) l.k (replicate 4 (replicate 34 (replicate 5 (pos 0))))
