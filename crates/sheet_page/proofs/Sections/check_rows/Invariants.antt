-- The invariants of `Sections::check_rows`.
use Rattle.std.proofs.Common.{◌≡◌, true, ℕ, ◌≤◌, ◌<◌}
use Rattle.sheet_page.specs.Page.{voiced_before, row_in, readable}
use Rattle.sheet_page.proofs.Sections.check_rows.Given as goal

abbrev pub invariant-loop-i : goal.invariant-loop-i
invariant-loop-i l = (l.i ≤ l.self.frames) × (l.seen ≡ voiced_before l.self.page.now l.i) × ((k : ℕ) → k < l.i → readable (row_in l.self.page.now k) ≡ true)
