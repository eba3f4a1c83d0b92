-- What a page holds, by place (docs/SCOPE.md, Sheet), and when it is a sheet: read it beside the bytes of a sheet, `Sheet` of sheet_sections. Definitions only; the laws are in
-- `PageLaws`.
use Rattle.std.specs.Prelude.{Bool, true, false, ◌&&◌, cond, List, [], ◌∷◌, ◌++◌, ℕ, zero, suc, ◌+◌, ◌*◌, eqb, leb, ℤ, pos, length, get_or, Option, Some, None}
use Rattle.best.specs.Best.{every}
use Rattle.lists.specs.Fill.{tabulate}
use Rattle.pitch_settings.specs.declared.Settings.{Settings}
use Rattle.pitch_settings.specs.Settings.{held_no}
use Rattle.pitch_table.specs.declared.Row.{Row}
use Rattle.pitch_table.specs.Row.{most_frames, numbers, unpitched_row}
use Rattle.sheet_bytes.specs.Bytes.{number_at, signed_at}
use Rattle.sheet_rows.specs.Rows.{row_of}
use Rattle.sheet_sections.specs.declared.Section.TheVariants.{Pairs, Correlations}
use Rattle.sheet_sections.specs.Sheet.{settings_count, count_bytes, setting_bytes, index_bytes, entry_bytes, setting_place, frames_at, verdicts_at, pairs_count_at, pairs_at, correlations_count_at, correlations_at, sheet_length}

-- the settings after their count, then the frames' count, then a byte a frame, its verdict
unfoldable pub sheet_settings : List ℕ → Settings
sheet_settings p =
    record {
      rate = number_at setting_bytes p (setting_place 0);
      nb = number_at setting_bytes p (setting_place 1);
      complexity = number_at setting_bytes p (setting_place 2);
      thres1 = signed_at p (setting_place 3);
      thres2 = signed_at p (setting_place 4);
    }

unfoldable pub frames_in : List ℕ → ℕ
frames_in p = number_at count_bytes p frames_at

unfoldable pub verdict_in : List ℕ → ℕ → ℕ
verdict_in p i = get_or p (verdicts_at + i) 0

-- how many of the first i verdicts are voiced, and of all
unfoldable pub voiced_before : List ℕ → ℕ → ℕ
voiced_before p zero = 0
voiced_before p (suc i) = voiced_before p i + cond (eqb (verdict_in p i) 0) 1 0

unfoldable pub voiced_in : List ℕ → ℕ
voiced_in p = voiced_before p (frames_in p)

-- where the pairs' count stands, and after it the pair of frame i where it is voiced; where the correlations' count stands, and after it the correlation of frame i
unfoldable pub pairs_from : List ℕ → ℕ
pairs_from p = pairs_count_at (frames_in p)

unfoldable pub pair_place : List ℕ → ℕ → ℕ
pair_place p i = pairs_at (frames_in p) + entry_bytes Pairs * voiced_before p i

unfoldable pub correlations_from : List ℕ → ℕ
correlations_from p = correlations_count_at (frames_in p) (voiced_in p)

unfoldable pub correlation_place : List ℕ → ℕ → ℕ
correlation_place p i = correlations_at (frames_in p) (voiced_in p) + entry_bytes Correlations * voiced_before p i

-- frame i's row: what its verdict, and where it is voiced its pair and its correlation, stand for
unfoldable pub row_in : List ℕ → ℕ → Option Row
row_in p i =
    cond (eqb (verdict_in p i) 0)
    (row_of (sheet_settings p) (pos 0) (pos (number_at index_bytes p (pair_place p i))) (pos (get_or p (pair_place p i + index_bytes) 0)) (signed_at p (correlation_place p i)))
    (row_of (sheet_settings p) (pos (verdict_in p i)) (pos 0) (pos 0) (pos 0))

unfoldable pub readable : Option Row → Bool
readable (Some r) = true
readable None = false

-- ---- when it is a sheet

-- the settings' section and the frames' count are there; as many settings as there are, which a sheet can hold, and no more frames than a sheet may have
unfoldable pub head_good : List ℕ → Bool
head_good p = leb verdicts_at (length p) && (eqb (number_at count_bytes p 0) settings_count && (eqb (held_no (sheet_settings p)) 0 && leb (frames_in p) most_frames))

-- no byte is missing and none follows; the pairs and the correlations number the voiced verdicts
unfoldable pub sizes_good : List ℕ → Bool
sizes_good p =
    eqb (length p) (sheet_length (frames_in p) (voiced_in p))
    && (eqb (number_at count_bytes p (pairs_from p)) (voiced_in p) && eqb (number_at count_bytes p (correlations_from p)) (voiced_in p))

-- every row can be read
unfoldable pub rows_good : List ℕ → Bool
rows_good p = every (frames_in p) (λ i. readable (row_in p i))

unfoldable pub well_formed : List ℕ → Bool
well_formed p = head_good p && (sizes_good p && rows_good p)

-- the refusal of a page that is no sheet, or 0
unfoldable pub page_no : List ℕ → ℕ
page_no p = cond (well_formed p) 0 9

-- ---- its rows

-- the row that was read (the second clause is for totality: no sheet has such a row)
unfoldable pub row_found : Option Row → Row
row_found (Some r) = r
row_found None = unpitched_row (pos 1)

unfoldable pub rows_in : List ℕ → List Row
rows_in p = tabulate (λ i. row_found (row_in p i)) (frames_in p)

-- the numbers of rows, row after row, as a table has them
unfoldable pub numbers_of : List Row → List ℤ
numbers_of [] = []
numbers_of (r ∷ rs) = numbers r ++ numbers_of rs
