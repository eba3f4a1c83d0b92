-- The text tells what a sheet holds.
use Rattle.std.specs.Prelude.{◌≡◌, refl, Bool, true, false, List, ◌++◌, ℕ, ◌<◌, length, get_or}
use Rattle.std.proofs.Common.{sym, ap, ◌∙◌, arith}
use Rattle.lists.specs.FillLaws.{get_d_tabulate}
use Rattle.pitch_settings.specs.declared.Settings.{Settings}
use Rattle.pitch_table.specs.declared.Row.{Row}
use Rattle.pitch_text.specs.Text.{refused_text}
use Rattle.pitch_text.specs.TextLaws.{lines_same}
use Rattle.sheet_bytes.specs.Bytes.{Bytes}
use Rattle.sheet_sections.specs.Sheet.{sheet}
use Rattle.sheet_page.specs.Page.{sheet_settings, frames_in, row_in, row_found, well_formed, rows_in}
use Rattle.pitch_sheet.specs.Holds.{no_row, Holds}
use Rattle.pitch_sheet.specs.SheetReadLaws.{sheet_well_formed, settings_read, sheet_frames, sheet_rows}
use Rattle.pitch_sheet.specs.PageWrittenLaws.{page_holds, page_sheet}
use Rattle.pitch_sheet.specs.RoundTrip.{IsSheet}
use Rattle.sheet_text.specs.Program.{sheet_head, sheet_report, sheet_text}
use Rattle.sheet_text.specs.ProgramLaws.{text_refused}
use Rattle.sheet_text.specs.Meaning.{Meaning}

of_sheet : (s : Settings) (rs : List Row) → Holds s rs → sheet_text (sheet s rs) ≡ sheet_report s (λ i. get_or rs i no_row) (length rs)
unfolding sheet_text sheet_report rows_in
of_sheet s rs h =
    let p = sheet s rs in
    let f : ℕ → Row = λ i. row_found (row_in p i) in
    let n = sheet_frames s rs h in
    let row : (i : ℕ) → i < length rs → f i ≡ get_or rs i no_row =
    λ i l. sym (get_d_tabulate f (frames_in p) i no_row (omega (arith, n))) ∙ ap (λ (x : List Row). get_or x i no_row) (sheet_rows s rs h) in
    rw (sheet_well_formed s rs h)
    ((λ u. sheet_report (settings_read s rs h u) f (n u))
    ∙ ap (λ (l : List ℕ). sheet_head s (length rs) ++ l) (lines_same s.nb f (λ i. get_or rs i no_row) (length rs) row))

of_other : (p : List ℕ) → Bytes p → (IsSheet p → ⊥) → sheet_text p ≡ refused_text 9
of_other p bytes g = by (well_formed p) refl
  where
    by : (b : Bool) → well_formed p ≡ b → sheet_text p ≡ refused_text 9
    by true e = absurd (g (record { settings = sheet_settings p; rows = rows_in p; holds = page_holds p bytes e; same = sym (page_sheet p bytes e) }))
    by false e = sym (text_refused p e)

pub text_means : Meaning
text_means = record { of_sheet = of_sheet; of_other = of_other }
