-- The invariants of `search_stage2`.
use Rattle.std.proofs.Common.{◌≡◌, false, ℕ, ◌+◌, ◌≤◌, ◌<◌}
use Rattle.lists.specs.Fill.{tabulate}
use Rattle.stage2_correlations.specs.Marks.{measured}
use Rattle.stage2_correlations.specs.RowLaws.{zero_in2}
use Rattle.stage2.specs.SearchLaws.{rows}
use Rattle.stage2.proofs.search_stage2.Given as goal

abbrev pub invariant-loop-k : goal.invariant-loop-k
invariant-loop-k l =
    (l.k ≤ l.nb_subfr) × ((l.nb_subfr ≡ l.s.nb) × ((l.marks ≡ tabulate (λ (i : ℕ). measured l.fn.kept (14 + i)) 132) × (((q : ℕ) → q < l.k → zero_in2 l.frame_8khz l.fn.kept q ≡ false) × (l.c_8khz ≡ rows l.frame_8khz l.fn.kept l.k))))
