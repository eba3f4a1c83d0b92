-- `sheet_sections::voiced_rows` meets its contract: the chain picks out the rows with an entry among the pairs.
use Rattle.std.proofs.Common.{◌≡◌, rules, tests, ◌∙◌, arith, ℕ, Bool, length, filter}
use Rattle.std.specs.List.{range_with_len}
use Rattle.std.proofs.lemmas.Iterator.{YieldsList-from_range}
use Rattle.std.proofs.lemmas.Iterator.Consumers.{count_from_yields_List, YieldsList-from_filter}
use Rattle.pitch_table.specs.Row.{row_at}
use Rattle.sheet_sections.specs.declared.Section.TheVariants.{Pairs}
use Rattle.sheet_sections.specs.Sheet.{has_entry}
use Rattle.sheet_sections.specs.SheetLaws.{voiced_picked}
use Rattle.sheet_sections.proofs.voiced_rows.Goals as goal

pub returns : goal.returns
returns c =
    let t = c.args.table.now in
    let n = c.args.frames in
    let test : ℕ → Bool = λ i. has_entry Pairs (row_at t i) in
    let e : c.count.result ≡ length (filter test (range_with_len 0 n)) =
    count_from_yields_List c.filter.result _ c.count.ensures.ran (YieldsList-from_filter _ test (YieldsList-from_range 0 n n (cc) (omega arith)) c.filter.ensures.closure (λ x r q k. search (rules, tests))) in
    e ∙ voiced_picked t n
