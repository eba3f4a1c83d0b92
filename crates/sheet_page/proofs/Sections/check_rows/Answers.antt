-- `Sections::check_rows` meets its contract.
use Rattle.std.proofs.Common.{◌≡◌, true, ap, arith, ℕ, below_more}
use Rattle.sheet_page.specs.Page.{row_in, readable}
use Rattle.sheet_page.proofs.Sections.check_rows.Goals as goal

pub loop-i-preserved : goal.loop-i-preserved
unfolding readable
loop-i-preserved c =
    let p = c.args.self.page.now in
    let e = c.in-Some.ensures in
    (omega arith, e.seen, below_more (λ (j : ℕ). readable (row_in p j) ≡ true) c.loop-i.i c.loop-i.invariant.2 (ap readable e.row))
