-- `Sections::row_and_seen` meets its contract: the verdict of the row that was read is the page's.
use Rattle.std.proofs.Common.{refl, sym, ◌∙◌, arith}
use Rattle.sheet_page.specs.PageLaws.{voiced_le, counted_voiced, counted_quiet}
use Rattle.sheet_page.proofs.Sections.row_and_seen.Goals as goal

pub overflow_add-result : goal.overflow_add-result
overflow_add-result c = omega (arith, voiced_le c.args.self.page.now c.args.i, c.requires.0, c.requires.1, c.ranges.self)

pub returns-then-r-eq0-clause-seen : goal.returns-then-r-eq0-clause-seen
returns-then-r-eq0-clause-seen c = counted_voiced c.args.self.page.now c.args.i c.in_ok-r.r (sym c.row.ensures ∙ c.in_ok-r.was) c.requires.1 refl c.if-r-eq0.true

pub returns-else-r-eq0-clause-seen : goal.returns-else-r-eq0-clause-seen
returns-else-r-eq0-clause-seen c = counted_quiet c.args.self.page.now c.args.i c.in_ok-r.r (sym c.row.ensures ∙ c.in_ok-r.was) c.requires.1 refl c.if-r-eq0.false
