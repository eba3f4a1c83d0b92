-- A sheet's bytes (docs/SCOPE.md, Sheet): sections in fixed order, each after a 4-byte count, all little-endian; and their sizes and places. Definitions only; the laws are in
-- `SheetLaws`.
use Rattle.std.specs.Prelude.{Bool, true, cond, List, [], ◌∷◌, ◌++◌, map, ℕ, ◌+◌, ◌*◌, ℤ, pos, nat_abs, length}
use Rattle.zint.specs.Equal.{eq_z}
use Rattle.lists.specs.Fill.{tabulate}
use Rattle.pitch_settings.specs.declared.Settings.{Settings}
use Rattle.pitch_table.specs.declared.Row.{Row}
use Rattle.pitch_table.specs.Row.{row_at}
use Rattle.sheet_bytes.specs.Bytes.{low_bytes, signed}
use Rattle.sheet_sections.specs.declared.Section.{Section}
use Rattle.sheet_sections.specs.declared.Section.TheVariants.{Verdicts, Pairs, Correlations}

-- ---- sizes and places, in bytes

-- how many settings there are, and the bytes of a count and of a setting
abbrev pub settings_count : ℕ
settings_count = 5

abbrev pub count_bytes : ℕ
count_bytes = 4

abbrev pub setting_bytes : ℕ
setting_bytes = 4

-- the bytes of a lag index, and of an entry of each section: a verdict; a lag index and a contour; a correlation
abbrev pub index_bytes : ℕ
index_bytes = 2

abbrev pub entry_bytes : Section → ℕ
entry_bytes Verdicts = 1
entry_bytes Pairs = index_bytes + 1
entry_bytes Correlations = 4

-- a section of n entries of b bytes each, after its count
abbrev pub section_bytes : ℕ → ℕ → ℕ
section_bytes b n = count_bytes + b * n

-- where setting k stands, from 0 on
abbrev pub setting_place : ℕ → ℕ
setting_place k = count_bytes + setting_bytes * k

-- where the frames' count stands, and after it the verdicts
abbrev pub frames_at : ℕ
frames_at = section_bytes setting_bytes settings_count

abbrev pub verdicts_at : ℕ
verdicts_at = frames_at + count_bytes

-- where the pairs' count stands in a sheet of n frames, and after it the pairs
abbrev pub pairs_count_at : ℕ → ℕ
pairs_count_at n = frames_at + section_bytes (entry_bytes Verdicts) n

abbrev pub pairs_at : ℕ → ℕ
pairs_at n = pairs_count_at n + count_bytes

-- where the correlations' count stands in a sheet of n frames, v of them voiced, and after it the correlations
abbrev pub correlations_count_at : ℕ → ℕ → ℕ
correlations_count_at n v = pairs_count_at n + section_bytes (entry_bytes Pairs) v

abbrev pub correlations_at : ℕ → ℕ → ℕ
correlations_at n v = correlations_count_at n v + count_bytes

-- the bytes of a sheet of n frames, v of them voiced: the correlations are its last section
abbrev pub sheet_length : ℕ → ℕ → ℕ
sheet_length n v = correlations_count_at n v + section_bytes (entry_bytes Correlations) v

-- ---- the bytes

-- whether a row has an entry in a section: the verdicts have one for every frame, the pairs and the correlations one for every voiced frame
unfoldable pub has_entry : Section → Row → Bool
has_entry Verdicts r = true
has_entry Pairs r = eq_z r.verdict (pos 0)
has_entry Correlations r = eq_z r.verdict (pos 0)

-- the entry of a row that a sheet can hold (no number but the correlation is negative): the verdict, a byte; the lag index, 2 bytes, unsigned, and the contour, 1; the correlation, 4 signed bytes
unfoldable pub entry : Section → Row → List ℕ
entry Verdicts r = nat_abs r.verdict ∷ []
entry Pairs r = low_bytes index_bytes (nat_abs r.index) ++ (nat_abs r.contour ∷ [])
entry Correlations r = signed r.correlation

-- a section's entries, in the frames' order
unfoldable pub section_entries : Section → List Row → List (List ℕ)
section_entries k [] = []
section_entries k (r ∷ rs) = cond (has_entry k r) (entry k r ∷ section_entries k rs) (section_entries k rs)

-- the settings as numbers, in their order on the page, and their entries, 4 bytes each, signed
unfoldable pub setting_numbers : Settings → List ℤ
setting_numbers s = pos s.rate ∷ pos s.nb ∷ pos s.complexity ∷ s.thres1 ∷ s.thres2 ∷ []

abbrev pub setting_entries : Settings → List (List ℕ)
setting_entries s = map signed (setting_numbers s)

-- lists, one after the other
unfoldable pub concat : {A : Type 0} → List (List A) → List A
concat [] = []
concat (e ∷ es) = e ++ concat es

-- a section: the count of its entries, 4 bytes, then the entries
unfoldable pub section : List (List ℕ) → List ℕ
section es = low_bytes count_bytes (length es) ++ concat es

-- the sheet of settings and rows. Nothing follows
unfoldable pub sheet : Settings → List Row → List ℕ
sheet s rs = section (setting_entries s) ++ section (section_entries Verdicts rs) ++ section (section_entries Pairs rs) ++ section (section_entries Correlations rs)

-- the first n rows of a table
unfoldable pub rows_of : List ℤ → ℕ → List Row
rows_of t n = tabulate (row_at t) n

-- a row's bytes in a section: its entry, or none
unfoldable pub row_bytes : Section → Row → List ℕ
row_bytes k r = cond (has_entry k r) (entry k r) []
