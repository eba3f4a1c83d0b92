-- Every row of a whole frame is one that a sheet can hold, and its correlation has 32 bits.
use Rattle.std.specs.Prelude.{◌≡◌, refl, true, List, ◌≤◌, ℤ, pos, nat_abs, length}
use Rattle.std.proofs.Common.{arith, SFits}
use Rattle.std.specs.Int.Signed.{quot_z}
use Rattle.std.specs.Int.{w32}
use Rattle.zint.specs.BoundLaws.{abs_prod, abs_fits}
use Rattle.stage2_correlations.specs.Correlations.{correlation2}
use Rattle.stage2_correlations.specs.RowLaws.{correlation_small}
use Rattle.stage2.specs.Scores.{contour_sum}
use Rattle.stage2.specs.Search.{SixteenBits}
use Rattle.stage2.specs.ScoreLaws.{quot_le, contour_small}
use Rattle.pitch_settings.specs.declared.Settings.{Settings}
use Rattle.pitch_settings.specs.Settings.{settings_no, frame_length}
use Rattle.pitch_settings.specs.SettingsLaws.{accepted_settings}
use Rattle.silk_pitch_analysis.specs.declared.Verdict.{Verdict}
use Rattle.silk_pitch_analysis.specs.declared.Verdict.TheVariants.{Voiced, Unvoiced, ZeroDivisor}
use Rattle.silk_pitch_analysis.specs.Frame.{row_from, frame_row, verdict_of}
use Rattle.silk_pitch_analysis.specs.Steps.{VerdictCarried, voiced, unvoiced, zero_divisor}
use Rattle.silk_pitch_analysis.specs.VerdictLaws.{verdict_carried}
use Rattle.silk_pitch_analysis.specs.Meaning.{e, lags, Means, VoicedWhen}
use Rattle.silk_pitch_analysis.specs.MeaningLaws.{verdict_means}
use Rattle.pitch_table.specs.Row.{voiced_row, unpitched_row}
use Rattle.sheet_rows.specs.Rows.{row_holds}
use Rattle.sheet_rows.specs.RowsLaws.{row_voiced, row_unvoiced, row_zero_divisor, holds_yes}

-- ---- the row of a verdict whose pair is carried

holds : (s : Settings) {v : Verdict} → VerdictCarried s v → row_holds s (row_from s v) ≡ true
unfolding row_from voiced_row unpitched_row
holds s (voiced {index} {contour} {corr} p) = holds_yes s (voiced_row s index contour corr) (row_voiced s index contour corr refl p)
holds s unvoiced = holds_yes s (unpitched_row (pos 1)) (row_unvoiced s (pos 0) (pos 0) (pos 0) refl)
holds s zero_divisor = holds_yes s (unpitched_row (pos 2)) (row_zero_divisor s (pos 0) (pos 0) (pos 0) refl)

-- ---- the correlation: 4 × (sum / nb) of correlations of 16 bits

module _ (s : Settings) (x : List ℤ) (prev corr : ℤ) (h : settings_no s ≡ 0) where
  voiced_small : {index contour r : ℤ} → VoicedWhen s x prev corr index contour r → nat_abs r ≤ 131072
  voiced_small v =
      let c = correlation2 (e s x prev corr) (lags s x prev corr) in
      let small : SixteenBits c s.nb = record { each = λ k d l a b. correlation_small (e s x prev corr) (lags s x prev corr) k d } in
      let w = v.won in
      let sum = contour_sum c s.nb v.winner v.winner_contour in
      let sized = contour_small c s.nb v.winner small w.passes_so.lists.at_least w.passes_so.lists.at_most v.winner_contour in
      let part = quot_le sum s.nb 32768 (omega (arith, (accepted_settings s h).nb_low)) (omega (arith, sized)) in
      rw w.correlates (abs_prod {A = 32768} {B = 4} (quot_z sum (pos s.nb)) (pos 4) part (omega arith))

  correlation_fits : (v : Verdict) → Means s x prev corr v → SFits w32 (row_from s v).correlation
  unfolding row_from voiced_row unpitched_row
  correlation_fits (Voiced index contour r) m = abs_fits {K = 131072} r tt (voiced_small m)
  correlation_fits Unvoiced m = abs_fits {K = 0} (pos 0) tt (omega arith)
  correlation_fits ZeroDivisor m = abs_fits {K = 0} (pos 0) tt (omega arith)

-- ---- a whole frame

module _ (s : Settings) (x : List ℤ) (prev corr : ℤ) (h : settings_no s ≡ 0) (len : length x ≡ frame_length s) where
  pub frame_holds : row_holds s (frame_row s x prev corr) ≡ true
  unfolding frame_row
  frame_holds = holds s (verdict_carried s x h len prev corr)

  pub frame_correlation : SFits w32 (frame_row s x prev corr).correlation
  unfolding frame_row
  frame_correlation = correlation_fits s x prev corr h (verdict_of s x prev corr) (verdict_means s x prev corr h len)
