-- `SheetPage::put_rows` meets its contract.
use Rattle.std.proofs.Common.{◌≡◌, ◌∙◌, ap, arith, ℕ}
use Rattle.std.proofs.lemmas.List.Edits.{sets}
use Rattle.sheet_page.specs.Page.{frames_in, rows_in, numbers_of}
use Rattle.sheet_page.specs.PageLaws.{first_rows, put_next}
use Rattle.sheet_page.proofs.SheetPage.put_rows.Goals as goal

pub loop-i-preserved : goal.loop-i-preserved
loop-i-preserved c =
    let e = c.in-Some.ensures in
    (omega arith, e.seen, c.put_row.ensures ∙ put_next c.args.self.sections.page.now c.args.table.now c.loop-i.i c.loop-i.invariant.2 e.row)

pub returns : goal.returns
unfolding rows_in
returns c =
    let e : c.loop-i.i ≡ frames_in c.args.self.sections.page.now = omega (arith, c.args.self.sections.frames_read) in
    c.loop-i.invariant.2 ∙ ap (λ (n : ℕ). sets c.args.table.now 0 (numbers_of (first_rows c.args.self.sections.page.now n))) e
