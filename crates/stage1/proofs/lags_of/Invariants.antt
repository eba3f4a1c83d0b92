-- The invariants of `lags_of`.
use Rattle.std.proofs.Common.{◌≡◌, ℕ, ◌+◌, get_or, replicate}
use Rattle.lists.specs.Fill.{filled}
use Rattle.stage1.proofs.lags_of.Given as goal

abbrev pub invariant-loop-i : goal.invariant-loop-i
invariant-loop-i l = l.lags ≡ filled (λ (k : ℕ). 8 + get_or l.d_srch k 0) l.i (replicate 8 0)
