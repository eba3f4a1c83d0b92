-- Stage 2 of the pitch analyser: what it answers for the 8 kHz signal e and the lags kept by stage 1, at the rate fs, with nb subframes, the complexity cx, the second
-- threshold, and the previous lag and correlation. Definitions only.
use Rattle.std.specs.Prelude.{Result, Ok, Err, ◌≡◌, cond, List, [], ◌∷◌, ◌⊎◌, ℕ, ◌+◌, ◌*◌, ◌≤◌, ◌<◌, ℤ, pos, ◌*ℤ◌, length}
use Rattle.std.specs.Int.Signed.{quot_z}
use Rattle.best.specs.Best.{Place, none, at, best}
use Rattle.silk_tables.specs.Tables.{contours2}
use Rattle.stage2_correlations.specs.Marks.{Kept}
use Rattle.stage2_correlations.specs.Correlations.{correlation2, zero2}
use Rattle.answers.specs.declared.NoPitch.{NoPitch}
use Rattle.answers.specs.declared.NoPitch.TheVariants.{Unvoiced as HasNone, ZeroDivisor as ByZero}
use Rattle.stage2.specs.declared.Chosen.{Chosen}
use Rattle.stage2.specs.Scores.{best_contour, lag_sum, Search2, threshold2, passes2, prev_8khz, score2}

-- what stage 2 answers: a zero divisor was reached, no lag passes, or the winner's lag, its contour and its correlation
pub data Stage2 : Type 0 where
  ZeroDivisor : Stage2
  Unvoiced : Stage2
  Winner : ℕ → ℕ → ℤ → Stage2

-- the code's answer: the winner, or why there is no pitch
abbrev pub answer_of : Result Chosen NoPitch → Stage2
answer_of (Ok c) = Winner c.lag c.contour c.correlation
answer_of (Err HasNone) = Unvoiced
answer_of (Err ByZero) = ZeroDivisor

-- the passing lag with the highest biased score wins, of equals the lowest: the place p stands for the lag 16 + p, up to 143
unfoldable pub winner : Search2 → Place
winner s = best 128 (λ p. passes2 s (16 + p)) (λ p. score2 s (16 + p))

-- without a passing lag the frame is unvoiced; the correlation is 4 times the sum over nb, Q15
abbrev pub won : Search2 → Place → Stage2
won s none = Unvoiced
won s (at p) =
    Winner (16 + p) (best_contour s.correlations s.subframes s.contours (16 + p))
    (quot_z (lag_sum s.correlations s.subframes s.contours (16 + p)) (pos s.subframes) *ℤ pos 4)

unfoldable pub picked : Search2 → Stage2
picked s = won s (winner s)

-- the search by correlations c, and by those of the signal e
abbrev pub search_by : (ℕ → ℕ → ℤ) → List ℕ → ℕ → ℕ → ℕ → ℤ → ℤ → ℤ → Search2
search_by c kept fs nb cx thres2 prev corr =
    record {
      correlations = c;
      kept = kept;
      subframes = nb;
      contours = contours2 fs nb cx;
      threshold = threshold2 nb thres2;
      prev_lag = prev_8khz fs prev;
      prev_corr = corr;
    }

abbrev pub search_of : List ℤ → List ℕ → ℕ → ℕ → ℕ → ℤ → ℤ → ℤ → Search2
search_of e kept fs nb cx thres2 prev corr = search_by (correlation2 e kept) kept fs nb cx thres2 prev corr

-- the answer: a divisor that is reached is zero, or what the search picks
unfoldable pub stage2 : List ℤ → List ℕ → ℕ → ℕ → ℕ → ℤ → ℤ → ℤ → Stage2
stage2 e kept fs nb cx thres2 prev corr = cond (zero2 e kept nb) ZeroDivisor (picked (search_of e kept fs nb cx thres2 prev corr))

-- ---- the answer in numbers (docs/SCOPE.md, Stages)

-- the answer's cases: a zero divisor is verdict 2, unvoiced verdict 1, and a winner verdict 0 with its lag, contour and correlation
abbrev pub stage2_numbers : Stage2 → List ℤ
stage2_numbers ZeroDivisor = pos 2 ∷ []
stage2_numbers Unvoiced = pos 1 ∷ []
stage2_numbers (Winner d j r) = pos 0 ∷ pos d ∷ pos j ∷ r ∷ []

-- the verdict and the values from the place of the winner
abbrev pub won_verdict : Place → ℕ
won_verdict none = 1
won_verdict (at p) = 0

abbrev pub won_values : Search2 → Place → List ℤ
won_values s none = []
won_values s (at p) =
    pos (16 + p) ∷ pos (best_contour s.correlations s.subframes s.contours (16 + p))
    ∷ (quot_z (lag_sum s.correlations s.subframes s.contours (16 + p)) (pos s.subframes) *ℤ pos 4) ∷ []

-- stage 2's verdict, and the values that come with verdict 0
unfoldable pub stage2_verdict : List ℤ → List ℕ → ℕ → ℕ → ℕ → ℤ → ℤ → ℤ → ℕ
stage2_verdict e kept fs nb cx thres2 prev corr = cond (zero2 e kept nb) 2 (won_verdict (winner (search_of e kept fs nb cx thres2 prev corr)))

unfoldable pub stage2_values : List ℤ → List ℕ → ℕ → ℕ → ℕ → ℤ → ℤ → ℤ → List ℤ
stage2_values e kept fs nb cx thres2 prev corr =
    won_values (search_of e kept fs nb cx thres2 prev corr) (winner (search_of e kept fs nb cx thres2 prev corr))

-- what stage 2 is handed: a rate, a subframe count and a complexity that are accepted, a whole frame at 8 kHz, and lags that stage 1 keeps
pub record Handed2 (e : List ℤ) (kept : List ℕ) (fs nb cx : ℕ) : Type 0 where
  pub rate : (fs ≡ 8) ⊎ ((fs ≡ 12) ⊎ (fs ≡ 16))
  pub subframes : (nb ≡ 2) ⊎ (nb ≡ 4)
  pub complexity : cx < 3
  pub long : (20 + 5 * nb) * 8 ≤ length e
  pub lags : Kept kept
