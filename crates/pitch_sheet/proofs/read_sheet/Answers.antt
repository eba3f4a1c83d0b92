-- `pitch_sheet::read_sheet` meets its contract.
use Rattle.std.proofs.Common.{◌≡◌, rules, sym, ◌∙◌, ap, arith, ℕ, List, ◌++◌, ◌*◌, ◌≤◌, drop, Result, Ok, Err}
use Rattle.std.proofs.lemmas.List.Edits.{sets}
use Rattle.refusals.specs.RefusalsLaws.{number_positive}
use Rattle.pitch_settings.specs.declared.Settings.{Settings}
use Rattle.pitch_table.specs.Row.{row_size}
use Rattle.sheet_page.specs.Page.{sheet_settings, frames_in, rows_in, numbers_of}
use Rattle.pitch_sheet.specs.Calls.{whole_rows, got, told_read}
use Rattle.pitch_sheet.specs.CallsLaws.{read_malformed, read_short, read_done, read_answer, rows_in-length, front}
use Rattle.pitch_sheet.proofs.read_sheet.Goals as goal
use Rattle.pitch_sheet.proofs.read_sheet.Goals.{In_ok-sheet}

module _ (c : In_ok-sheet) where
  settings_are : c.in_ok-sheet.sheet.sections.settings.settings ≡ sheet_settings c.args.page.now
  settings_are = c.in_ok-sheet.sheet.sections.settings_read ∙ ap sheet_settings c.in_ok-sheet.ensures.page

  frames_are : c.in_ok-sheet.sheet.sections.frames ≡ frames_in c.args.page.now
  frames_are = c.in_ok-sheet.sheet.sections.frames_read ∙ ap frames_in c.in_ok-sheet.ensures.page

pub returns-in_err-sheet : goal.returns-in_err-sheet
returns-in_err-sheet c =
    let a = c.args in
    let k = c.in_err-sheet.ensures.number in
    let r : c.from_residual.result ≡ Err c.in_err-sheet.field-0.0 = search rules in
    let h = read_answer a.page.now a.table.now
    (ap (λ (r : Result (Settings × ℕ) ℕ). got r a.table.now) (ap told_read r ∙ ap Err k)
    ∙ sym (read_malformed a.page.now a.table.now (λ z. omega (arith, number_positive c.in_err-sheet.field-0.0, k)))) in
    record { table_after = h.0; numbers = h.1 }

pub returns-then-table-sheet : goal.returns-then-table-sheet
returns-then-table-sheet c =
    let a = c.args in
    let f = frames_are (goal.at.returns-then-table-sheet c).In_ok-sheet in
    let h = read_answer a.page.now a.table.now (sym (read_short a.page.now a.table.now (sym c.in_ok-sheet.ensures.number) (omega (arith, f)))) in
    record { table_after = h.0; numbers = h.1 }

pub returns : goal.returns
returns c =
    let i = (goal.at.returns c).In_ok-sheet in
    let p = c.args.page.now in
    let t = c.args.table.now in
    let f = frames_are i in
    let n : frames_in p ≤ whole_rows t = omega (arith, f) in
    let l = rows_in-length p in
    let e : c.put_rows.new.table ≡ numbers_of (rows_in p) ++ drop (frames_in p * row_size) t =
    c.put_rows.ensures ∙ ap (λ (q : List ℕ). sets t 0 (numbers_of (rows_in q))) c.in_ok-sheet.ensures.page ∙ front t (numbers_of (rows_in p)) (omega arith) ∙ ap (λ (k : ℕ). numbers_of (rows_in p) ++ drop k t) l in
    let o = read_answer p t ((λ u. got (Ok (settings_are i u, f u)) (e u)) ∙ sym (read_done p t (sym c.in_ok-sheet.ensures.number) n)) in
    record { table_after = o.0; numbers = o.1 }
