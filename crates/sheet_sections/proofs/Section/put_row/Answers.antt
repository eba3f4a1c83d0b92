-- `Section::put_row` meets its contract: an entry is as long as its section says.
use Rattle.std.proofs.Common.{◌≡◌, true, rules, sym, ◌∙◌, ap, arith, ◌+◌, ◌≤◌, length, of_z, to_z, nat_abs, w32}
use Rattle.sheet_sections.specs.declared.Section.{Section}
use Rattle.sheet_sections.specs.Sheet.{entry_bytes, has_entry}
use Rattle.sheet_sections.specs.RowBytesLaws.{row_bytes-length, pair_voiced, correlation_voiced, put_no_entry, put_verdict, put_pair, put_correlation}
use Rattle.sheet_sections.proofs.Section.put_row.Goals as goal
use Rattle.sheet_sections.proofs.Section.put_row.Goals.{Else-not-has_entry}

-- the row has an entry, and the page room for it
module _ (c : Else-not-has_entry) where
  entered : has_entry c.args.self c.args.r ≡ true
  entered = sym c.has_entry.ensures ∙ c.if-not-has_entry.false

  room : c.args.at + entry_bytes c.args.self ≤ length c.args.page.now
  room = omega (arith, c.requires.1, row_bytes-length c.args.self c.args.r entered)

  room_in : {k : Section} → c.args.self ≡ k → c.args.at + entry_bytes k ≤ length c.args.page.now
  room_in e = omega (arith, room, ap entry_bytes e)

  entered_in : {k : Section} → c.args.self ≡ k → has_entry k c.args.r ≡ true
  entered_in e = ap (λ (w : Section). has_entry w c.args.r) (sym e) ∙ entered

pub returns-then-not-has_entry : goal.returns-then-not-has_entry
returns-then-not-has_entry c = let a = c.args in put_no_entry a.self a.r a.page.now a.at (sym c.has_entry.ensures ∙ c.if-not-has_entry.true)

pub bounds-page-at : goal.bounds-page-at
bounds-page-at c = omega (arith, room_in (goal.at.bounds-page-at c).Else-not-has_entry c.in-Verdicts.is)

pub returns-in-Verdicts : goal.returns-in-Verdicts
returns-in-Verdicts c =
    let a = c.args in
    let v : to_z w32 (of_z w32 a.r.verdict) ≡ a.r.verdict = search rules in
    rw c.in-Verdicts.is (put_verdict a.r a.page.now a.at (ap nat_abs v))

pub put_u16-requires : goal.put_u16-requires
put_u16-requires c = omega (arith, room_in (goal.at.put_u16-requires c).Else-not-has_entry c.in-Pairs.is)

pub bounds-page-at-in-Pairs : goal.bounds-page-at-in-Pairs
bounds-page-at-in-Pairs c = omega (arith, room_in (goal.at.bounds-page-at-in-Pairs c).Else-not-has_entry c.in-Pairs.is)

pub returns-in-Pairs : goal.returns-in-Pairs
returns-in-Pairs c =
    let a = c.args in
    let i : to_z w32 (of_z w32 a.r.index) ≡ a.r.index = search rules in
    let n : to_z w32 (of_z w32 a.r.contour) ≡ a.r.contour = search rules in
    rw c.in-Pairs.is (put_pair a.r a.page.now a.at (pair_voiced a.r (entered_in (goal.at.returns-in-Pairs c).Else-not-has_entry c.in-Pairs.is)) c.put_u16.ensures (ap nat_abs i) (ap nat_abs n))

pub put_i32-requires : goal.put_i32-requires
put_i32-requires c = omega (arith, room_in (goal.at.put_i32-requires c).Else-not-has_entry c.in-Correlations.is)

pub returns-in-Correlations : goal.returns-in-Correlations
returns-in-Correlations c =
    let a = c.args in
    let v : to_z w32 (of_z w32 a.r.correlation) ≡ a.r.correlation = search rules in
    rw c.in-Correlations.is (put_correlation a.r a.page.now a.at (correlation_voiced a.r (entered_in (goal.at.returns-in-Correlations c).Else-not-has_entry c.in-Correlations.is)) c.put_i32.ensures v)
