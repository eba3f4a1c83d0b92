-- What writing and reading a sheet say and leave, in every case (docs/SCOPE.md, Refusals). The sheet's bytes are `Sheet` of sheet_sections, the rows that it can hold `Rows`
-- of sheet_rows, and a page's contents `Page` of sheet_page. Definitions only.
use Rattle.std.specs.Prelude.{Bool, cond, List, [], ◌∷◌, ◌++◌, ℕ, ◌*◌, ◌/◌, min, eqb, leb, ℤ, pos, length, drop, Result, Ok, Err}
use Rattle.best.specs.Best.{every}
use Rattle.refusals.specs.declared.Refusal.{Refusal}
use Rattle.refusals.specs.Refusals.{refusal_number}
use Rattle.pitch_settings.specs.declared.Settings.{Settings}
use Rattle.pitch_settings.specs.declared.held.Held.{Held}
use Rattle.pitch_settings.specs.Settings.{held_no}
use Rattle.pitch_table.specs.Row.{row_size, most_frames, row_at}
use Rattle.sheet_rows.specs.Rows.{row_holds}
use Rattle.sheet_sections.specs.Sheet.{setting_numbers, rows_of, sheet}
use Rattle.sheet_page.specs.Page.{sheet_settings, frames_in, page_no, rows_in, numbers_of}

-- a table's whole rows
abbrev pub whole_rows : List ℤ → ℕ
whole_rows t = length t / row_size

-- a sheet can hold each of the first n rows
unfoldable pub rows_hold : Settings → List ℤ → ℕ → Bool
rows_hold s t n = every n (λ i. row_holds s (row_at t i))

-- ---- writing

-- the refusal of writing n frames on a page of `room` bytes, or 0: 1, 2, 3 the settings; 6 more frames than a sheet may have; 9 a row that is there, among the first n, breaks the rules; 7 the table has
-- fewer whole rows; 8 the page is shorter than the sheet
unfoldable pub write_no : Settings → ℕ → List ℤ → ℕ → ℕ
write_no s n t room =
    cond (eqb (held_no s) 0)
    (cond (leb n most_frames)
    (cond (rows_hold s t (min n (whole_rows t)))
    (cond (leb n (whole_rows t))
    (cond (leb (length (sheet s (rows_of t n))) room) 0 8)
    7)
    9)
    6)
    (held_no s)

pub record WriteOutcome : Type 0 where
  pub answer : Result ℕ ℕ
  pub page : List ℕ

abbrev pub wrote : Result ℕ ℕ → List ℕ → WriteOutcome
wrote r page = record { answer = r; page = page }

-- the sheet at the front of the page, the rest kept; a refusal leaves the page
unfoldable pub write_call : Settings → ℕ → List ℤ → List ℕ → WriteOutcome
write_call s n t page =
    cond (eqb (write_no s n t (length page)) 0)
    (wrote (Ok (length (sheet s (rows_of t n)))) (sheet s (rows_of t n) ++ drop (length (sheet s (rows_of t n))) page))
    (wrote (Err (write_no s n t (length page))) page)

-- the answer in numbers: 0 and the bytes written, or the number of the refusal
unfoldable pub write_numbers : Result ℕ ℕ → List ℤ
write_numbers (Ok n) = pos 0 ∷ pos n ∷ []
write_numbers (Err k) = pos k ∷ []

-- ---- reading

-- the refusal of reading a page into a table, or 0: 9 the page is no sheet; 7 the table has fewer whole rows than the sheet has frames
unfoldable pub read_no : List ℕ → List ℤ → ℕ
read_no page t = cond (eqb (page_no page) 0) (cond (leb (frames_in page) (whole_rows t)) 0 7) (page_no page)

pub record ReadOutcome : Type 0 where
  pub answer : Result (Settings × ℕ) ℕ
  pub table : List ℤ

-- a reading's answer with its refusal's number, and the settings as numbers alone
abbrev pub told_read : Result (Held × ℕ) Refusal → Result (Settings × ℕ) ℕ
told_read (Ok a) = Ok (a.0.settings, a.1)
told_read (Err r) = Err (refusal_number r)

abbrev pub got : Result (Settings × ℕ) ℕ → List ℤ → ReadOutcome
got r t = record { answer = r; table = t }

-- the settings and the frame count, and the rows written whole at the front of the table, the rest kept; a refusal leaves the table
unfoldable pub read_call : List ℕ → List ℤ → ReadOutcome
read_call page t =
    cond (eqb (read_no page t) 0)
    (got (Ok (sheet_settings page, frames_in page)) (numbers_of (rows_in page) ++ drop (frames_in page * row_size) t))
    (got (Err (read_no page t)) t)

-- the answer in numbers: 0, the settings and the frame count, or the number of the refusal
unfoldable pub read_numbers : Result (Settings × ℕ) ℕ → List ℤ
read_numbers (Ok a) = pos 0 ∷ (setting_numbers a.0 ++ (pos a.1 ∷ []))
read_numbers (Err k) = pos k ∷ []
