-- The invariants of `contour_sum`.
use Rattle.std.proofs.Common.{◌≡◌, ℕ, ◌≤◌}
use Rattle.silk_tables.specs.Tables.{moved_lag2}
use Rattle.stage2.specs.Scores.{sum}
use Rattle.stage2.specs.Search.{at2}
use Rattle.stage2.proofs.Search8khz.contour_sum.Given as goal

abbrev pub invariant-loop-i : goal.invariant-loop-i
invariant-loop-i l = (l.i ≤ l.self.by.nb) × (l.cc ≡ sum (λ (k : ℕ). at2 l.self.c_8khz.now k (moved_lag2 l.self.by.nb k l.d l.j)) l.i)
