-- Cases of the definition, by computation: no byte, a sheet with no frame, one with a voiced frame, and that with a byte after its end.
use Rattle.std.specs.Prelude.{◌≡◌, refl, List, [], ◌∷◌, ◌++◌, map, ℕ, replicate}
use Rattle.zint.specs.Wrap.{mod_z, wrap}
use Rattle.zint.specs.Equal.{eq_z}
use Rattle.zint.specs.Clamp.{clamp}
use Rattle.best.specs.Best.{every}
use Rattle.silk_tables.specs.Tables.{cb_lags_stage2_10_ms, offset2, contours2, contours, greatest_index}
use Rattle.silk_tables.specs.Rebuild.{primary, book, rebuilt, carried}
use Rattle.pitch_settings.specs.Settings.{rate_known, subframes_known, held_no}
use Rattle.pitch_text.specs.Decimal.{digits_to, digits, decimal}
use Rattle.pitch_text.specs.Text.{fields, letter_of, values_of, row_text, line_text, lines_text, refused_text}
use Rattle.sheet_bytes.specs.Bytes.{number, number_at, signed_at}
use Rattle.pitch_table.specs.Row.{pair_lag, voiced_row}
use Rattle.sheet_rows.specs.Rows.{row_of}
use Rattle.sheet_sections.specs.Sheet.{setting_numbers}
use Rattle.sheet_page.specs.Page.{sheet_settings, frames_in, verdict_in, voiced_before, voiced_in, pairs_from, pair_place, correlations_from, correlation_place, row_in, readable, head_good, sizes_good, rows_good, well_formed, row_found}
use Rattle.sheet_text.specs.Program.{sheet_head, sheet_report, sheet_text}

-- a number below 256 in four bytes
abbrev four_bytes : ℕ → List ℕ
four_bytes n = n ∷ 0 ∷ 0 ∷ 0 ∷ []

-- 8 kHz, nb 2, complexity 0, thres1 −1, thres2 7
abbrev settings : List ℕ
settings = four_bytes 5 ++ (four_bytes 8 ++ (four_bytes 2 ++ (four_bytes 0 ++ (replicate 4 255 ++ four_bytes 7))))

-- no frame; and one voiced frame, lag index 127, contour 1, correlation −2: its lags are 144 and 143
abbrev empty : List ℕ
empty = settings ++ (four_bytes 0 ++ (four_bytes 0 ++ four_bytes 0))

abbrev voiced : List ℕ
voiced = settings ++ (four_bytes 1 ++ (0 ∷ (four_bytes 1 ++ (127 ∷ 0 ∷ 1 ∷ (four_bytes 1 ++ (254 ∷ replicate 3 255))))))

-- `refused 9`; `8 2 0 -1 7 0`; `8 2 0 -1 7 1` and `0 V 127 1 -2 144 143`; `refused 9` for a byte after the end
pub text_cases :
    map sheet_text ([] ∷ empty ∷ voiced ∷ (voiced ++ (0 ∷ [])) ∷ [])
    ≡ (114 ∷ 101 ∷ 102 ∷ 117 ∷ 115 ∷ 101 ∷ 100 ∷ 32 ∷ 57 ∷ 10 ∷ [])
    ∷ (56 ∷ 32 ∷ 50 ∷ 32 ∷ 48 ∷ 32 ∷ 45 ∷ 49 ∷ 32 ∷ 55 ∷ 32 ∷ 48 ∷ 10 ∷ [])
    ∷ (56 ∷ 32 ∷ 50 ∷ 32 ∷ 48 ∷ 32 ∷ 45 ∷ 49 ∷ 32 ∷ 55 ∷ 32 ∷ 49 ∷ 10 ∷ 48 ∷ 32 ∷ 86 ∷ 32 ∷ 49 ∷ 50 ∷ 55 ∷ 32 ∷ 49 ∷ 32 ∷ 45 ∷ 50 ∷ 32 ∷ 49 ∷ 52 ∷ 52 ∷ 32 ∷ 49 ∷ 52 ∷ 51 ∷ 10 ∷ [])
    ∷ (114 ∷ 101 ∷ 102 ∷ 117 ∷ 115 ∷ 101 ∷ 100 ∷ 32 ∷ 57 ∷ 10 ∷ [])
    ∷ []
unfolding sheet_text sheet_report sheet_head setting_numbers lines_text line_text row_text fields letter_of values_of refused_text decimal digits digits_to well_formed head_good sizes_good rows_good every readable row_found row_in row_of voiced_row pair_lag rebuilt carried primary book sheet_settings frames_in verdict_in voiced_before voiced_in pairs_from pair_place correlations_from correlation_place number number_at signed_at held_no rate_known subframes_known wrap mod_z eq_z clamp cb_lags_stage2_10_ms offset2 contours2 contours greatest_index
text_cases = refl
