-- The round trips and the sizes, as statements about what the two calls are equated with. Statements only; `RoundTripLaws` proves them.
use Rattle.std.specs.Prelude.{Ok, Err, ◌≡◌, List, [], ◌∷◌, ◌++◌, ℕ, ◌*◌, ◌≤◌, ◌<◌, ℤ, pos, length, get_or, take, drop}
use Rattle.std.specs.Int.{w32}
use Rattle.std.proofs.Common.{SFits}
use Rattle.pitch_settings.specs.declared.Settings.{Settings}
use Rattle.pitch_table.specs.declared.Row.{Row}
use Rattle.sheet_bytes.specs.Bytes.{Bytes}
use Rattle.pitch_table.specs.Row.{voiced_row, unpitched_row}
use Rattle.sheet_sections.specs.declared.Section.TheVariants.{Pairs}
use Rattle.sheet_sections.specs.Sheet.{section_entries, sheet, sheet_length}
use Rattle.sheet_page.specs.Page.{numbers_of}
use Rattle.pitch_sheet.specs.Calls.{whole_rows, wrote, write_call, got, read_call}
use Rattle.pitch_sheet.specs.Holds.{Holds}
use Rattle.pitch_table.specs.Row.{row_size, most_frames}

-- numbers of 32 bits, as a table has them
abbrev pub Words : List ℤ → Type 0
Words t = (i : ℕ) → SFits w32 (get_or t i (pos 0))

-- a page that is the sheet of settings and rows which a sheet can hold
pub record IsSheet (p : List ℕ) : Type 0 where
  pub settings : Settings
  pub rows : List Row
  pub holds : Holds settings rows
  pub same : p ≡ sheet settings rows

pub record RoundTrip : Type 0 where
  -- what was written reads back to the same settings, frame count and rows, into any table that has the rows
  pub written_reads : (s : Settings) (n : ℕ) (t : List ℤ) (page : List ℕ) (k : ℕ) (after : List ℕ) → SFits w32 s.thres1 → SFits w32 s.thres2 → Words t
      → write_call s n t page ≡ wrote (Ok k) after
      → (into : List ℤ) → n ≤ whole_rows into → read_call (take k after) into ≡ got (Ok (s, n)) (take (n * row_size) t ++ drop (n * row_size) into)
  -- what was read writes back to the same bytes, on any page that has the room
  pub read_writes : (p : List ℕ) (t : List ℤ) (s : Settings) (n : ℕ) (after : List ℤ) → Bytes p
      → read_call p t ≡ got (Ok (s, n)) after
      → (page : List ℕ) → length p ≤ length page → write_call s n after page ≡ wrote (Ok (length p)) (p ++ drop (length p) page)
  -- a page is read exactly where it is a sheet: a sheet is read into a table that has the rows, and refused with 7 where the table has fewer; 9 is said of no sheet, and of every other page
  pub sheet_reads : (s : Settings) (rs : List Row) (t : List ℤ) → Holds s rs → length rs ≤ whole_rows t → read_call (sheet s rs) t ≡ got (Ok (s, length rs)) (numbers_of rs ++ drop (length rs * row_size) t)
  pub sheet_short : (s : Settings) (rs : List Row) (t : List ℤ) → Holds s rs → whole_rows t < length rs → read_call (sheet s rs) t ≡ got (Err 7) t
  pub nine_no_sheet : (p : List ℕ) (t : List ℤ) → (read_call p t).answer ≡ Err 9 → IsSheet p → ⊥
  pub no_sheet_nine : (p : List ℕ) (t : List ℤ) → Bytes p → (IsSheet p → ⊥) → (read_call p t).answer ≡ Err 9
  -- two sheets with the same bytes are of the same settings and rows
  pub one_meaning : (s s' : Settings) (rs rs' : List Row) → Holds s rs → Holds s' rs' → sheet s rs ≡ sheet s' rs' → (s ≡ s') × (rs ≡ rs')
  -- the sizes: by the frames and the voiced frames; with no frame, with one unvoiced and with one voiced; and the longest
  pub length_is : (s : Settings) (rs : List Row) → length (sheet s rs) ≡ sheet_length (length rs) (length (section_entries Pairs rs))
  pub no_frames : (s : Settings) → length (sheet s []) ≡ 36
  pub one_unvoiced : (s : Settings) → length (sheet s (unpitched_row (pos 1) ∷ [])) ≡ 37
  pub one_voiced : (s : Settings) (index contour correlation : ℤ) → length (sheet s (voiced_row s index contour correlation ∷ [])) ≡ 44
  pub longest : (s : Settings) (rs : List Row) → length rs ≤ most_frames → length (sheet s rs) ≤ sheet_length most_frames most_frames
