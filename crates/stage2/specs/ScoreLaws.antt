-- Laws of stage 2's numbers: sums over the subframes, sizes by which every step fits, and the best contour.
use Rattle.std.specs.Prelude.{◌≡◌, refl, Bool, true, false, ◌&&◌, cond, ℕ, zero, suc, ◌+◌, ◌*◌, ◌/◌, ◌^◌, ◌<◌, ◌≤◌, eqb, ℤ, pos, negsuc, nat_abs, ◌+ℤ◌, ◌-ℤ◌, ◌*ℤ◌, ◌≤ℤ◌, ◌<ℤ◌}
use Rattle.std.proofs.Common.{ap₂, ◌∙◌, div-lt_iff_lt-mul, add-one, arith, eq-eqb, ne_eqb, lit<, sym, ap, mul-le-mul_right, SFits}
use Rattle.std.specs.Int.Signed.{lt_z, shr_z, quot_z}
use Rattle.std.specs.Int.{w16, w32}
use mir.Val.{sel}
use Rattle.zint.specs.BoundLaws.{abs_ud, abs_add, abs_sub, abs_prod, abs_neg, fits_abs}
use Rattle.zint.specs.DiffLaws.{le_of, lt_of, v, n as num, ◌⊖◌, ring}
use Rattle.zint.specs.ShiftLaws.{nonneg_abs}
use Rattle.zint.specs.Wrap.{wrap}
use Rattle.zint.specs.WrapLaws.{wrap_fits, wrap_id}
use Rattle.best.specs.Best.{BestOf}
use Rattle.best.proofs.BestOfLaws.{best_at, best_ext}
use Rattle.silk_macros.specs.Macros.{smulbb}
use Rattle.silk_macros.specs.Log.{lin2log}
use Rattle.silk_macros.specs.LogLaws.{lin2log_is}
use Rattle.silk_tables.specs.Tables.{moved_lag2}
use Rattle.silk_tables.specs.Stage2Laws.{moved2_bounds}
use Rattle.stage2_correlations.specs.Marks.{listed}
use Rattle.stage2.specs.Scores.{sum, contour_sum, place_no, best_contour, lag_sum, Search2, threshold2, passes2, prev_8khz, lag_bias, distance, prev_bias, biased2, score2}
use Rattle.stage2.specs.Search.{SixteenBits}

-- ---- sums

pub sum_next : (f : ℕ → ℤ) (n : ℕ) → sum f (n + 1) ≡ sum f n +ℤ f n
unfolding sum
sum_next f n = ap (sum f) (add-one n)

pub sum_ext : (f g : ℕ → ℤ) (n : ℕ) → ((k : ℕ) → k < n → f k ≡ g k) → sum f n ≡ sum g n
unfolding sum
sum_ext f g zero h = refl
sum_ext f g (suc n) h = ap₂ ◌+ℤ◌ (sum_ext f g n (λ k l. h k (omega arith))) (h n (omega arith))

pub sum_small : (f : ℕ → ℤ) (n B : ℕ) → ((k : ℕ) → k < n → nat_abs (f k) ≤ B) → nat_abs (sum f n) ≤ n * B
unfolding sum
sum_small f zero B h = omega arith
sum_small f (suc n) B h = omega (arith, abs_add (sum f n) (f n) (sum_small f n B (λ k l. h k (omega arith))) (h n (omega arith)))

-- ---- sizes of shifts and quotients

below : (x b K : ℕ) → 0 < b → x ≤ K * b → x / b ≤ K
below x b K h l = let p : x / b < K + 1 = (div-lt_iff_lt-mul {k = b} {x = x} {y = K + 1} h).1 (omega arith) in omega arith

pub quot_le : (a : ℤ) (b K : ℕ) → 0 < b → nat_abs a ≤ K * b → nat_abs (quot_z a (pos b)) ≤ K
quot_le (pos a) b K h l = below a b K h l
quot_le (negsuc a) b K h l = omega (arith, abs_neg (pos (suc a / b)), below (suc a) b K h l)

pub shr_le : (z : ℤ) (m K : ℕ) → 0 < m → nat_abs z ≤ K * m → nat_abs (shr_z z m) ≤ K
shr_le (pos a) m K h l = below a m K h l
shr_le (negsuc a) m K h l = (div-lt_iff_lt-mul {k = m} {x = a} {y = K} h).1 l

pub smulbb_le : (a b : ℤ) → nat_abs (smulbb a b) ≤ 2 ^ 30
unfolding smulbb
smulbb_le a b = abs_prod (wrap w16 a) (wrap w16 b) (fits_abs (wrap_fits w16 a)) (fits_abs (wrap_fits w16 b))

-- ---- the logarithm

pub log_small : (g : ℤ) → nat_abs (lin2log g) ≤ 4096
log_small g = let r = lin2log_is g in rw r.is (omega (arith, r.small))

-- ---- the previous lag, way by way

module _ (fs : ℕ) (prev : ℤ) where
  abbrev scaled : Bool → Bool → Bool → ℤ
  scaled t a b = sel t (cond a (quot_z (wrap w32 (prev *ℤ pos 2)) (pos 3)) (cond b (shr_z prev 2) prev)) prev

  pub prev_none : lt_z (pos 0) prev ≡ false → prev ≡ prev_8khz fs prev
  unfolding prev_8khz
  prev_none e = sym (ap (λ (t : Bool). scaled t (eqb fs 12) (eqb fs 16)) e)

  module _ (e : lt_z (pos 0) prev ≡ true) where
    pub prev_12 : fs ≡ 12 → quot_z (wrap w32 (prev *ℤ pos 2)) (pos 3) ≡ prev_8khz fs prev
    unfolding prev_8khz
    prev_12 h = sym (ap₂ (λ (t a : Bool). scaled t a (eqb fs 16)) e (eq-eqb fs 12 h))

    pub prev_16 : (fs ≡ 12 → ⊥) → fs ≡ 16 → shr_z prev 2 ≡ prev_8khz fs prev
    unfolding prev_8khz
    prev_16 g h = sym (λ i. scaled (e i) (ne_eqb fs 12 g i) (eq-eqb fs 16 h i))

    pub prev_8 : (fs ≡ 12 → ⊥) → (fs ≡ 16 → ⊥) → prev ≡ prev_8khz fs prev
    unfolding prev_8khz
    prev_8 g h = sym (λ i. scaled (e i) (ne_eqb fs 12 g i) (ne_eqb fs 16 h i))

pub third_le : (z : ℤ) → SFits w32 z → nat_abs (quot_z z (pos 3)) ≤ 1073741824
third_le z f = quot_le z 3 1073741824 (lit< tt) (omega (arith, fits_abs f))

-- ---- the biases

pub lag_bias_le : (nb : ℕ) (log : ℤ) → nat_abs (lag_bias nb log) ≤ 8388608
unfolding lag_bias
lag_bias_le nb log = shr_le (smulbb (pos (nb * 410)) log) 128 8388608 (lit< tt) (smulbb_le (pos (nb * 410)) log)

square_nonneg : (z : ℤ) → pos 0 ≤ℤ (z *ℤ z)
square_nonneg (pos a) = le_of (pos 0) (pos (a * a)) (omega arith)
square_nonneg (negsuc a) = le_of (pos 0) (pos (suc a * suc a)) (omega arith)

shr_nonneg : (z : ℤ) (m : ℕ) → pos 0 ≤ℤ z → pos 0 ≤ℤ shr_z z m
shr_nonneg (pos a) m h = le_of (pos 0) (pos (a / m)) (omega arith)
shr_nonneg (negsuc a) m h = absurd h.le

pub distance_low : (a b : ℤ) → pos 0 ≤ℤ distance a b
unfolding distance smulbb
distance_low a b = shr_nonneg (wrap w16 (a -ℤ b) *ℤ wrap w16 (a -ℤ b)) 128 (square_nonneg (wrap w16 (a -ℤ b)))

pub distance_high : (a b : ℤ) → distance a b ≤ℤ pos 8388608
unfolding distance
distance_high a b =
    let h = shr_le (smulbb (a -ℤ b) (a -ℤ b)) 128 8388608 (lit< tt) (smulbb_le (a -ℤ b) (a -ℤ b)) in
    le_of (shr_z (smulbb (a -ℤ b) (a -ℤ b)) 128) (pos 8388608) (omega (arith, abs_ud (shr_z (smulbb (a -ℤ b) (a -ℤ b)) 128)))

-- the divisor of the bias
pub divisor_is : (z : ℤ) → pos 0 ≤ℤ z → z +ℤ pos 64 ≡ pos (nat_abs z + 64)
divisor_is z h = ap (λ (x : ℤ). x +ℤ pos 64) (nonneg_abs z h)

pub quot_bias_le : (a z : ℤ) → SFits w32 a → pos 0 ≤ℤ z → nat_abs (quot_z a (z +ℤ pos 64)) ≤ 33554432
quot_bias_le a z f h = rw (divisor_is z h) (quot_le a (nat_abs z + 64) 33554432 (omega arith) (omega (arith, fits_abs f)))

pub prev_bias_le : (nb : ℕ) (corr dist : ℤ) → pos 0 ≤ℤ dist → nat_abs (prev_bias nb corr dist) ≤ 33554432
unfolding prev_bias
prev_bias_le nb corr dist h = quot_bias_le _ dist (wrap_fits w32 _) h

-- ---- the score's steps fit, and it is above the least number

module _ (cc : ℤ) (nb d : ℕ) (prev corr : ℤ) (h : nat_abs cc ≤ 131072) where
  pub less_lag_bias : nat_abs (cc -ℤ lag_bias nb (lin2log (pos d))) ≤ 8519680
  less_lag_bias = abs_sub {A = 131072} {B = 8388608} cc (lag_bias nb (lin2log (pos d))) h (lag_bias_le nb (lin2log (pos d)))

  pub less_prev_bias : nat_abs (cc -ℤ lag_bias nb (lin2log (pos d)) -ℤ prev_bias nb corr (distance (lin2log (pos d)) (lin2log prev))) ≤ 42074112
  less_prev_bias =
      abs_sub {A = 8519680} {B = 33554432} (cc -ℤ lag_bias nb (lin2log (pos d))) (prev_bias nb corr (distance (lin2log (pos d)) (lin2log prev))) less_lag_bias
      (prev_bias_le nb corr (distance (lin2log (pos d)) (lin2log prev)) (distance_low (lin2log (pos d)) (lin2log prev)))

  sub_zero : (z : ℤ) → z -ℤ pos 0 ≡ z
  sub_zero z = ring (v z ⊖ num 0) (v z) (omega arith)

  -- by the test on the previous lag
  pub biased_yes : lt_z (pos 0) prev ≡ true
      → cc -ℤ lag_bias nb (lin2log (pos d)) -ℤ prev_bias nb corr (distance (lin2log (pos d)) (lin2log prev)) ≡ biased2 cc nb d prev corr
  unfolding biased2
  biased_yes e =
      sym (ap (λ (t : Bool). cc -ℤ lag_bias nb (lin2log (pos d)) -ℤ sel t (prev_bias nb corr (distance (lin2log (pos d)) (lin2log prev))) (pos 0)) e)

  pub biased_no : lt_z (pos 0) prev ≡ false → cc -ℤ lag_bias nb (lin2log (pos d)) ≡ biased2 cc nb d prev corr
  unfolding biased2
  biased_no e =
      sym (ap (λ (t : Bool). cc -ℤ lag_bias nb (lin2log (pos d)) -ℤ sel t (prev_bias nb corr (distance (lin2log (pos d)) (lin2log prev))) (pos 0)) e ∙ sub_zero (cc -ℤ lag_bias nb (lin2log (pos d))))

  pub biased_le : nat_abs (biased2 cc nb d prev corr) ≤ 42074112
  biased_le = by (lt_z (pos 0) prev) refl
    where
      by : (t : Bool) → lt_z (pos 0) prev ≡ t → nat_abs (biased2 cc nb d prev corr) ≤ 42074112
      by true e = rw (← biased_yes e) less_prev_bias
      by false e = rw (← biased_no e) (omega (arith, less_lag_bias))

above : (z : ℤ) → nat_abs z ≤ 42074112 → negsuc 2147483647 <ℤ z
above z h = lt_of (negsuc 2147483647) z (omega (arith, abs_ud z))

-- ---- the sums of a lag, from correlations of 16 bits

-- a listed lag is moved to a lag of the row
pub moved_in : (nb k d j : ℕ) → 16 ≤ d → d ≤ 143 → (14 ≤ moved_lag2 nb k d j) × (moved_lag2 nb k d j ≤ 145)
moved_in nb k d j l h = let b = moved2_bounds nb k d j (omega arith) in (omega arith, omega arith)

module _ (c : ℕ → ℕ → ℤ) (nb d : ℕ) (s : SixteenBits c nb) (l : 16 ≤ d) (h : d ≤ 143) where
  pub contour_small : (j : ℕ) → nat_abs (contour_sum c nb d j) ≤ nb * 32768
  unfolding contour_sum
  contour_small j = sum_small (λ k. c k (moved_lag2 nb k d j)) nb 32768 (λ k q. s.each k (moved_lag2 nb k d j) q (moved_in nb k d j l h).0 (moved_in nb k d j l h).1)

  pub lag_small : (m : ℕ) → nb ≤ 4 → nat_abs (lag_sum c nb m d) ≤ 131072
  unfolding lag_sum
  lag_small m f = let p = mul-le-mul_right 32768 f in omega (arith, contour_small (best_contour c nb m d))

pub score_above : (s : Search2) (d : ℕ) → SixteenBits s.correlations s.subframes → s.subframes ≤ 4 → 16 ≤ d → d ≤ 143 → negsuc 2147483647 <ℤ score2 s d
unfolding score2
score_above s d small f l h =
    let sum = lag_sum s.correlations s.subframes s.contours d in
    above (biased2 sum s.subframes d s.prev_lag s.prev_corr)
    (biased_le sum s.subframes d s.prev_lag s.prev_corr (lag_small s.correlations s.subframes d small l h s.contours f))

-- the contour that is best by comparison
pub contour_is : (c : ℕ → ℕ → ℤ) (nb m d p : ℕ) → BestOf m (λ j. true) (contour_sum c nb d) p → best_contour c nb m d ≡ p
unfolding best_contour
contour_is c nb m d p b = ap place_no (best_at m (λ j. true) (contour_sum c nb d) p b)

-- ---- correlations that agree give the same

pub record Agree (c c' : ℕ → ℕ → ℤ) (nb : ℕ) : Type 0 where
  pub same : (k d : ℕ) → k < nb → 14 ≤ d → d ≤ 145 → c k d ≡ c' k d

module _ (c c' : ℕ → ℕ → ℤ) (nb : ℕ) (a : Agree c c' nb) (d : ℕ) (l : 16 ≤ d) (h : d ≤ 143) where
  contour_ext : (j : ℕ) → contour_sum c nb d j ≡ contour_sum c' nb d j
  unfolding contour_sum
  contour_ext j = sum_ext _ _ nb (λ k q. a.same k (moved_lag2 nb k d j) q (moved_in nb k d j l h).0 (moved_in nb k d j l h).1)

  pub best_contour_ext : (m : ℕ) → best_contour c nb m d ≡ best_contour c' nb m d
  unfolding best_contour
  best_contour_ext m = ap place_no (best_ext m (λ j. true) (λ j. true) (contour_sum c nb d) (contour_sum c' nb d) (λ j q. refl) (λ j q. contour_ext j))

  pub lag_sum_ext : (m : ℕ) → lag_sum c nb m d ≡ lag_sum c' nb m d
  unfolding lag_sum
  lag_sum_ext m = contour_ext (best_contour c nb m d) ∙ ap (contour_sum c' nb d) (best_contour_ext m)

-- the same search by other correlations
abbrev pub with_correlations : Search2 → (ℕ → ℕ → ℤ) → Search2
with_correlations s c =
    record { correlations = c; kept = s.kept; subframes = s.subframes; contours = s.contours; threshold = s.threshold; prev_lag = s.prev_lag; prev_corr = s.prev_corr }

module _ (s : Search2) (c : ℕ → ℕ → ℤ) (a : Agree s.correlations c s.subframes) (d : ℕ) (l : 16 ≤ d) (h : d ≤ 143) where
  pub passes_ext : passes2 s d ≡ passes2 (with_correlations s c) d
  unfolding passes2
  passes_ext = ap (λ (z : ℤ). listed s.kept d && lt_z s.threshold z) (lag_sum_ext s.correlations c s.subframes a d l h s.contours)

  pub score_ext : score2 s d ≡ score2 (with_correlations s c) d
  unfolding score2
  score_ext =
      ap (λ (z : ℤ). biased2 z s.subframes d s.prev_lag s.prev_corr) (lag_sum_ext s.correlations c s.subframes a d l h s.contours)

-- ---- the threshold is the source's product

pub threshold_is : (nb : ℕ) (thres2 : ℤ) → nb ≤ 4 → smulbb (pos nb) thres2 ≡ threshold2 nb thres2
unfolding smulbb threshold2
threshold_is nb thres2 h = ap (λ (z : ℤ). z *ℤ wrap w16 thres2) (wrap_id w16 (pos nb) (record { sfits = omega arith }))
