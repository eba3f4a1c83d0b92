-- Stage 2's sums and scores of a lag d at 8 kHz, from the correlations c by subframe and lag. nb is the subframe count and m the number of contours tried; s is all that the
-- search goes by.
-- Definitions only; the laws are in `ScoreLaws`.
use Rattle.std.specs.Prelude.{Bool, true, ◌&&◌, cond, List, ℕ, zero, suc, ◌*◌, eqb, ℤ, pos, ◌+ℤ◌, ◌-ℤ◌, ◌*ℤ◌}
use Rattle.std.specs.Int.Signed.{lt_z, shr_z, quot_z}
use Rattle.std.specs.Int.{w16, w32}
use mir.Val.{sel}
use Rattle.zint.specs.Wrap.{wrap}
use Rattle.best.specs.Best.{Place, none, at, best}
use Rattle.silk_macros.specs.Macros.{smulbb}
use Rattle.silk_macros.specs.Log.{lin2log}
use Rattle.silk_tables.specs.Tables.{moved_lag2}
use Rattle.stage2_correlations.specs.Marks.{listed}

-- f 0 + .. + f (n - 1)
unfoldable pub sum : (ℕ → ℤ) → ℕ → ℤ
sum f zero = pos 0
sum f (suc n) = sum f n +ℤ f n

-- ---- a lag's sum is that of the contour that sums highest, of equals the first

-- along contour j: each subframe's correlation at the lag that the contour moves d to
unfoldable pub contour_sum : (ℕ → ℕ → ℤ) → ℕ → ℕ → ℕ → ℤ
contour_sum c nb d j = sum (λ k. c k (moved_lag2 nb k d j)) nb

-- the number at a place, and 0 where there is none
abbrev pub place_no : Place → ℕ
place_no none = 0
place_no (at p) = p

-- the first contour that no contour outdoes
unfoldable pub best_contour : (ℕ → ℕ → ℤ) → ℕ → ℕ → ℕ → ℕ
best_contour c nb m d = place_no (best m (λ j. true) (contour_sum c nb d))

unfoldable pub lag_sum : (ℕ → ℕ → ℤ) → ℕ → ℕ → ℕ → ℤ
lag_sum c nb m d = contour_sum c nb d (best_contour c nb m d)

-- ---- what the search goes by

pub record Search2 : Type 0 where
  -- the correlations by subframe and lag, and the lags that stage 1 kept
  pub correlations : ℕ → ℕ → ℤ
  pub kept : List ℕ
  -- how many subframes there are, and how many contours are tried
  pub subframes : ℕ
  pub contours : ℕ
  -- what a lag's sum has to be above
  pub threshold : ℤ
  -- the previous lag at 8 kHz, and the previous correlation
  pub prev_lag : ℤ
  pub prev_corr : ℤ

-- ---- a lag passes where its sum exceeds nb times the low 16 bits of thres2

unfoldable pub threshold2 : ℕ → ℤ → ℤ
threshold2 nb thres2 = pos nb *ℤ wrap w16 thres2

unfoldable pub passes2 : Search2 → ℕ → Bool
passes2 s d = listed s.kept d && lt_z s.threshold (lag_sum s.correlations s.subframes s.contours d)

-- ---- the biased score, by the source's steps

-- the previous lag, which is at the rate fs, at 8 kHz
unfoldable pub prev_8khz : ℕ → ℤ → ℤ
prev_8khz fs prev = sel (lt_z (pos 0) prev) (cond (eqb fs 12) (quot_z (wrap w32 (prev *ℤ pos 2)) (pos 3)) (cond (eqb fs 16) (shr_z prev 2) prev)) prev

-- short lags are favoured: `silk_rshift(silk_smulbb(nb_subfr * 410, lag_log2_q7), 7)`
unfoldable pub lag_bias : ℕ → ℤ → ℤ
lag_bias nb log = shr_z (smulbb (pos (nb * 410)) log) 128

-- and lags near the previous one: the square of the logarithms' distance, and `prev_lag_bias_q13` from it and the previous correlation
unfoldable pub distance : ℤ → ℤ → ℤ
distance log prev_log = shr_z (smulbb (log -ℤ prev_log) (log -ℤ prev_log)) 128

unfoldable pub prev_bias : ℕ → ℤ → ℤ → ℤ
prev_bias nb corr dist = quot_z (wrap w32 (shr_z (smulbb (pos (nb * 1638)) corr) 32768 *ℤ dist)) (dist +ℤ pos 64)

-- a sum less the two biases; there is a previous lag where it is positive
unfoldable pub biased2 : ℤ → ℕ → ℕ → ℤ → ℤ → ℤ
biased2 cc nb d prev corr =
    cc -ℤ lag_bias nb (lin2log (pos d)) -ℤ sel (lt_z (pos 0) prev) (prev_bias nb corr (distance (lin2log (pos d)) (lin2log prev))) (pos 0)

unfoldable pub score2 : Search2 → ℕ → ℤ
score2 s d = biased2 (lag_sum s.correlations s.subframes s.contours d) s.subframes d s.prev_lag s.prev_corr
