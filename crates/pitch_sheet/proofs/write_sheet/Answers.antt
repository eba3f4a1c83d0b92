-- `pitch_sheet::write_sheet` meets its contract.
use Rattle.std.proofs.Common.{◌≡◌, rules, sym, ◌∙◌, ap, arith, ℕ, length, Result, Ok, Err}
use Rattle.refusals.specs.Refusals.{told}
use Rattle.refusals.specs.RefusalsLaws.{number_positive}
use Rattle.lists.specs.Put.{Put}
use Rattle.sheet_sections.specs.Sheet.{sheet, rows_of}
use Rattle.pitch_sheet.specs.Calls.{wrote}
use Rattle.pitch_sheet.specs.CallsLaws.{Writable, writable, write_refused, write_done, write_answer, front}
use Rattle.pitch_sheet.proofs.write_sheet.Goals as goal
use Rattle.pitch_sheet.proofs.write_sheet.Goals.{In_ok-sheet}

module _ (c : In_ok-sheet) where
  can_write : Writable c.args.s c.args.frames c.args.table.now (length c.args.page.now)
  can_write = let a = c.args in writable a.s a.frames a.table.now (length a.page.now) (sym c.in_ok-sheet.ensures.number)

  -- the sheet that was made is the one that was asked for
  bytes : (let s = c.in_ok-sheet.sheet in sheet s.settings.settings (rows_of s.table.now s.frames)) ≡ sheet c.args.s (rows_of c.args.table.now c.args.frames)
  bytes = let k = c.in_ok-sheet.ensures in λ i. sheet (k.settings i) (rows_of (k.table i) (k.frames i))

pub returns-in_err-sheet : goal.returns-in_err-sheet
returns-in_err-sheet c =
    let a = c.args in
    let k = c.in_err-sheet.ensures.number in
    let r : c.from_residual.result ≡ Err c.in_err-sheet.field-0.0 = search rules in
    let h = write_answer a.s a.frames a.table.now a.page.now
    (ap (λ (r : Result ℕ ℕ). wrote r a.page.now) (ap told r ∙ ap Err k)
    ∙ sym (write_refused a.s a.frames a.table.now a.page.now (λ z. omega (arith, number_positive c.in_err-sheet.field-0.0, k)))) in
    record { page_after = h.0; numbers = h.1 }

pub put-requires : goal.put-requires
put-requires c =
    let i = (goal.at.put-requires c).In_ok-sheet in
    omega (arith, ap length (bytes i), (can_write i).fits)

pub returns : goal.returns
returns c =
    let a = c.args in
    let i = (goal.at.returns c).In_ok-sheet in
    let b = sheet a.s (rows_of a.table.now a.frames) in
    let put : Put a.page.now 0 b c.put.result c.put.new.page = rw (bytes i) at c.put.ensures in
    let n : c.put.result ≡ length b = omega (arith, put.ends) in
    let p = put.holds ∙ front a.page.now b (can_write i).fits in
    let h = write_answer a.s a.frames a.table.now a.page.now
    ((λ u. wrote (Ok (n u)) (p u)) ∙ sym (write_done a.s a.frames a.table.now a.page.now (sym c.in_ok-sheet.ensures.number))) in
    record { page_after = h.0; numbers = h.1 }
