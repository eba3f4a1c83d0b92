-- The program `sheet_read`: the text that it prints, as a function of all bytes of its input. A line with rate, nb, complexity, thres1, thres2 and frame count, then the rows as
-- `track` prints them, or `refused` and the number; and what its call leaves in each lent place. Definitions only.
use Rattle.std.specs.Prelude.{cond, List, [], ◌∷◌, ◌++◌, ℕ, ◌+◌, ◌*◌, ℤ, pos, length, drop}
use Rattle.lists.specs.Fill.{overwritten}
use Rattle.pitch_settings.specs.declared.Settings.{Settings}
use Rattle.pitch_table.specs.declared.Row.{Row}
use Rattle.pitch_text.specs.Decimal.{digits}
use Rattle.pitch_text.specs.Text.{digits_bytes, field_bytes, line_bytes, fields, lines_text, refused_text}
use Rattle.sheet_sections.specs.Sheet.{settings_count, setting_numbers}
use Rattle.sheet_page.specs.Page.{sheet_settings, frames_in, row_in, row_found, well_formed, rows_in, numbers_of}
use Rattle.pitch_table.specs.Row.{row_size, most_frames}

-- how many bytes the first line has at most: the rate, a field for each other setting and one for the frame count, and the end of the line; and the text of a whole sheet
abbrev pub sheet_head_bytes : ℕ
sheet_head_bytes = digits_bytes + field_bytes * settings_count + 1

abbrev pub sheet_text_bytes : ℕ
sheet_text_bytes = sheet_head_bytes + line_bytes * most_frames

-- the first line: the rate, each other setting after a space, and the frame count after a space
unfoldable pub sheet_head : Settings → ℕ → List ℕ
sheet_head s frames = digits s.rate ++ (fields (drop 1 (setting_numbers s)) ++ (fields (pos frames ∷ []) ++ (10 ∷ [])))

-- the first line, then a line for each frame
unfoldable pub sheet_report : Settings → (ℕ → Row) → ℕ → List ℕ
sheet_report s rows frames = sheet_head s frames ++ lines_text s.nb rows frames

-- what the program prints for the input p: the settings and rows of a sheet; 9 for everything that is no sheet
unfoldable pub sheet_text : List ℕ → List ℕ
sheet_text p = cond (well_formed p) (sheet_report (sheet_settings p) (λ i. row_found (row_in p i)) (frames_in p)) (refused_text 9)

-- ---- the whole outcome of a call

-- how many bytes were written, and the lent lists at the end
pub record SheetPrinted : Type 0 where
  pub len : ℕ
  pub out : List ℕ
  pub table : List ℤ

abbrev pub sheet_printed : ℕ → List ℕ → List ℤ → SheetPrinted
sheet_printed len out table = record { len = len; out = out; table = table }

-- the lent table after the input p: the sheet's rows, and then what the table had; an input that is no sheet leaves it
unfoldable pub sheet_table_after : List ℕ → List ℤ → List ℤ
sheet_table_after p table = cond (well_formed p) (numbers_of (rows_in p) ++ drop (frames_in p * row_size) table) table

-- what `sheet_text` leaves of `out` and `table` for the input p: the text over the front of `out`
unfoldable pub sheet_text_call : List ℕ → List ℕ → List ℤ → SheetPrinted
sheet_text_call p out table = sheet_printed (length (sheet_text p)) (overwritten (sheet_text p) out) (sheet_table_after p table)
