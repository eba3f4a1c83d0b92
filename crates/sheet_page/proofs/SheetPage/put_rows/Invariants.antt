-- The invariants of `SheetPage::put_rows`.
use Rattle.std.proofs.Common.{◌≡◌, ◌≤◌}
use Rattle.std.proofs.Math.Seq.{sets}
use Rattle.sheet_page.specs.Page.{voiced_before, numbers_of}
use Rattle.sheet_page.specs.PageLaws.{first_rows}
use Rattle.sheet_page.proofs.SheetPage.put_rows.Given as goal

abbrev pub invariant-loop-i : goal.invariant-loop-i
invariant-loop-i l = (l.i ≤ l.self.sections.frames) × (l.seen ≡ voiced_before l.self.sections.page.now l.i) × (l.table ≡ sets l.initial.table 0 (numbers_of (first_rows l.self.sections.page.now l.i)))
