-- Every verdict's pair is carried: its index is at most the greatest of its rate, and its contour is one in use.
use Rattle.std.specs.Prelude.{◌≡◌, Bool, cond, List, ◌⊎◌, ℕ, ◌+◌, ◌*◌, ◌/◌, ◌≤◌, ℤ, length, take, refl, true, false, eqb}
use Rattle.std.proofs.Common.{◌∙◌, inl, inr, ⊎_elim, arith, eqb-true, length-take-le}
use Rattle.std.proofs.lemmas.Bool.{eqb-false}
use Rattle.pitch_settings.specs.declared.Settings.{Settings}
use Rattle.pitch_settings.specs.Settings.{settings_no, frame_length}
use Rattle.pitch_settings.specs.SettingsLaws.{accepted_settings}
use Rattle.silk_tables.specs.Tables.{greatest_lag, greatest_index}
use Rattle.silk_tables.specs.ContourLaws.{contours_8, contours_other}
use Rattle.frame_signals.specs.Scale.{scaled}
use Rattle.frame_signals.specs.ScaleLaws.{length_scaled}
use Rattle.stage1.specs.Stage1.{stage1, kept_lags, Screen, ZeroDivisor as Zero1, Unvoiced as Unvoiced1, Goes}
use Rattle.stage2.specs.Stage2.{stage2, Stage2, ZeroDivisor as Zero2, Unvoiced as Unvoiced2, Winner}
use Rattle.stage2.specs.MeaningLaws.{winner_range}
use Rattle.stage3.specs.Stage3.{stage3}
use Rattle.stage3.specs.Pick.{Found, Pair, ZeroDivisor as Zero3}
use Rattle.silk_pitch_analysis.specs.Frame.{signal8, signal4, scaled_lag, from_pair, last_stage, from_winner, second_stage, from_screen, staged, verdict_of}
use Rattle.silk_pitch_analysis.specs.Steps.{WinnerRange, VerdictCarried, unvoiced, zero_divisor}
use Rattle.silk_pitch_analysis.specs.FrameLaws.{pair_carried, stage3_range}

-- the greatest lag at 12 and 16 kHz, by the greatest index
greatest_other : (fs : ℕ) → (fs ≡ 12) ⊎ (fs ≡ 16) → greatest_lag fs ≤ 2 * fs + greatest_index fs
unfolding greatest_index
greatest_other fs (inl e) = rw e (omega arith)
greatest_other fs (inr e) = rw e (omega arith)

module _ (s : Settings) (w : List ℤ) (h : settings_no s ≡ 0) (len : length w ≡ frame_length s) where
  other : (s.rate ≡ 8 → ⊥) → (s.rate ≡ 12) ⊎ (s.rate ≡ 16)
  other g = ⊎_elim (λ e. absurd (g e)) (λ k. k) (accepted_settings s h).rate

  module _ (lag contour : ℕ) (corr : ℤ) (won : WinnerRange s lag contour) where
    -- stage 2 is the last stage
    at_8 : s.rate ≡ 8 → VerdictCarried s (from_pair s.rate corr (Pair lag contour))
    unfolding greatest_index
    at_8 e =
        pair_carried s corr lag contour (omega (arith, won.low)) (rw e (omega (arith, won.high)))
        (omega (arith, won.tried, contours_8 s.rate s.nb s.complexity e))

    -- stage 3 is
    by_found : (g : s.rate ≡ 8 → ⊥) (x : Found) → stage3 w s.rate s.nb s.complexity (lag * s.rate / 8) ≡ x → VerdictCarried s (from_pair s.rate corr x)
    by_found g (Pair d j) e =
        let p = stage3_range s w h len lag contour won g d j e in
        pair_carried s corr d j p.0 (omega (arith, p.1.0, greatest_other s.rate (other g)))
        (omega (arith, p.1.1, contours_other s.rate s.nb s.complexity g))
    by_found g Zero3 e = zero_divisor

    last_carried : VerdictCarried s (last_stage s w lag contour corr)
    unfolding last_stage scaled_lag
    last_carried = by (eqb s.rate 8) refl
      where
        by : (t : Bool) → eqb s.rate 8 ≡ t
            → VerdictCarried s (cond t (from_pair s.rate corr (Pair lag contour)) (from_pair s.rate corr (stage3 w s.rate s.nb s.complexity (lag * s.rate / 8))))
        by true e = at_8 (eqb-true s.rate 8 e)
        by false e = by_found (eqb-false s.rate 8 e) (stage3 w s.rate s.nb s.complexity (lag * s.rate / 8)) refl

  by_winner : (e : List ℤ) (lags : List ℕ) (prev corr : ℤ) (x : Stage2) → stage2 e lags s.rate s.nb s.complexity s.thres2 prev corr ≡ x → VerdictCarried s (from_winner s w x)
  by_winner e lags prev corr (Winner d j r) q =
      let p = winner_range e lags s.rate s.nb s.complexity s.thres2 prev corr d j r q in
      last_carried d j r (record { low = p.0; high = p.1.0; tried = p.1.1 })
  by_winner e lags prev corr Unvoiced2 q = unvoiced
  by_winner e lags prev corr Zero2 q = zero_divisor

  by_screen : (e f : List ℤ) (prev corr : ℤ) (x : Screen) → VerdictCarried s (from_screen s w e f prev corr x)
  unfolding second_stage
  by_screen e f prev corr Goes = by_winner e (kept_lags f s.nb s.complexity s.thres1) prev corr (stage2 e (kept_lags f s.nb s.complexity s.thres1) s.rate s.nb s.complexity s.thres2 prev corr) refl
  by_screen e f prev corr Unvoiced1 = unvoiced
  by_screen e f prev corr Zero1 = zero_divisor

  pub staged_carried : (prev corr : ℤ) → VerdictCarried s (staged s w prev corr)
  unfolding staged
  staged_carried prev corr = by_screen (signal8 s w) (signal4 s w) prev corr (stage1 (signal4 s w) s.nb s.complexity s.thres1).screen

pub verdict_carried : (s : Settings) (x : List ℤ) → settings_no s ≡ 0 → length x ≡ frame_length s → (prev corr : ℤ) → VerdictCarried s (verdict_of s x prev corr)
unfolding verdict_of
verdict_carried s x h len prev corr = staged_carried s (scaled x) h (length_scaled x ∙ len) prev corr

-- the verdict of the first N samples
pub first_carried : (s : Settings) (x : List ℤ) → settings_no s ≡ 0 → frame_length s ≤ length x → (prev corr : ℤ) → VerdictCarried s (verdict_of s (take (frame_length s) x) prev corr)
first_carried s x h l prev corr = verdict_carried s (take (frame_length s) x) h (length-take-le (frame_length s) x l) prev corr
