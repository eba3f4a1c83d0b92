-- Laws of stage 3's numbers: that they fit, and that a score is above the least number.
use Rattle.std.specs.Prelude.{◌≡◌, refl, ℕ, zero, suc, ◌+◌, ◌-◌, ◌*◌, ◌/◌, ◌^◌, ◌<◌, ◌≤◌, ℤ, pos, negsuc, nat_abs, ◌+ℤ◌, ◌-ℤ◌, ◌*ℤ◌, ◌≤ℤ◌, ◌<ℤ◌}
use Rattle.std.proofs.Common.{ap, ap₂, ◌∙◌, div-lt_iff_lt-mul, add-one, arith, lt→ltb, le→leb, SFits}
use Rattle.std.specs.Int.Signed.{shr_z}
use Rattle.std.specs.Int.{w16, w32}
use Rattle.zint.specs.BoundLaws.{abs_ud, abs_prod, abs_sub, fits_abs, abs_fits}
use Rattle.zint.specs.Clamp.{sat}
use Rattle.zint.specs.DiffLaws.{dn, v, n as num, ◌⊕◌, sfits_by, le_in, zarith, nonneg_dn}
use Rattle.zint.specs.Wrap.{wrap}
use Rattle.zint.specs.WrapLaws.{wrap_fits}
use Rattle.silk_macros.specs.Macros.{smulwb}
use Rattle.silk_tables.specs.Tables.{TableSettings, in_use, offset, least_lag, greatest_lag, range_high}
use Rattle.silk_tables.proofs.TableLaws.{offset_ge, offset_le, low_ge, high_le}
use Rattle.silk_tables.specs.ContourLaws.{greatest_lag_le, greatest_lag_ge}
use Rattle.stage3.specs.Pick.{first_tried, last_tried, bias_of, biased}
use Rattle.stage3.specs.Stage3.{sat_sum}

-- ---- sums

pub sat_sum_next : (e : ℤ) (f : ℕ → ℤ) (k : ℕ) → sat_sum e f (k + 1) ≡ sat w32 (sat_sum e f k +ℤ f k)
unfolding sat_sum
sat_sum_next e f k = rw add-one

pub sat_sum_ext : (e : ℤ) (f g : ℕ → ℤ) (k : ℕ) → ((q : ℕ) → q < k → f q ≡ g q) → sat_sum e f k ≡ sat_sum e g k
unfolding sat_sum
sat_sum_ext e f g zero h = refl
sat_sum_ext e f g (suc k) h = ap₂ (λ (x y : ℤ). sat w32 (x +ℤ y)) (sat_sum_ext e f g k (λ q l. h q (omega arith))) (h k (omega arith))

-- ---- the bias

module _ (b : ℤ) (j : ℕ) (l : pos 0 ≤ℤ b) (u : b ≤ℤ pos 68) (h : j < 34) where
  small : nat_abs (b *ℤ pos j) ≤ 68 * 33
  small =
      let d : dn b ≡ 0 = nonneg_dn l in
      abs_prod {A = 68} {B = 33} b (pos j) (omega (zarith, abs_ud b)) (omega arith)

  pub product_fits : SFits w32 (b *ℤ pos j)
  product_fits = abs_fits (b *ℤ pos j) tt small

  pub diff_fits : SFits w32 (pos 32767 -ℤ b *ℤ pos j)
  diff_fits = abs_fits (pos 32767 -ℤ b *ℤ pos j) tt (abs_sub {A = 32767} {B = 68 * 33} (pos 32767) (b *ℤ pos j) (omega arith) small)

-- ---- a lag moved by an offset

pub reach_fits : {nb cx k : ℕ} (s : TableSettings nb cx) → k < nb → (d j : ℕ) → d ≤ 288 → j < in_use nb cx → SFits w32 (pos d +ℤ offset nb k j)
reach_fits {nb} {cx} {k} s h d j l hj =
    let a = offset_ge s h j hj in
    let b = le_in (v (offset nb k j) ⊕ num 4) (v (range_high nb cx k)) (offset_le s h j hj) in
    let e = low_ge s h in
    let f = high_le s h in
    sfits_by w32 (num d ⊕ v (offset nb k j)) (omega zarith) (omega zarith)

pub bias_low : (lag : ℕ) → pos 0 ≤ℤ bias_of lag
unfolding bias_of
bias_low lag = record { le = le→leb 0 (1638 / lag) (omega arith) }

pub bias_high : (lag : ℕ) → 24 ≤ lag → bias_of lag ≤ℤ pos 68
unfolding bias_of
bias_high lag h =
    let p : 1638 < 69 * lag = omega arith in
    let q : 1638 / lag < 69 = (div-lt_iff_lt-mul {k = lag} {x = 1638} {y = 69} (omega arith)).1 p in
    record { le = le→leb (1638 / lag) 68 (omega arith) }

-- ---- a score is above the least number

above : (z : ℤ) → nat_abs z ≤ 2 ^ 46 → negsuc 2147483647 <ℤ shr_z z 65536
above (pos a) h = record { lt = tt }
above (negsuc a) h = record { lt = lt→ltb (a / 65536) 2147483647 (omega arith) }

pub score_above : (q bias : ℤ) (j : ℕ) → SFits w32 q → negsuc 2147483647 <ℤ biased q bias j
unfolding biased smulwb
score_above q bias j f =
    let z = pos 32767 -ℤ bias *ℤ pos j in
    above (q *ℤ wrap w16 z) (abs_prod {A = 2 ^ 31} {B = 2 ^ 15} q (wrap w16 z) (fits_abs f) (fits_abs (wrap_fits w16 z)))

-- ---- the lags tried: five at most, all within the least and the greatest

pub few_lags : (fs lag d : ℕ) → 2 * fs ≤ lag → d ≤ last_tried fs lag → d - first_tried fs lag < 5
unfolding first_tried last_tried
few_lags fs lag d h l = omega arith

pub last_le : (fs lag : ℕ) → last_tried fs lag ≤ greatest_lag fs
unfolding last_tried
last_le fs lag = omega arith

pub last_in : (fs lag : ℕ) → 12 ≤ fs → last_tried fs lag ≤ 18 * fs
last_in fs lag h = omega (arith, last_le fs lag, greatest_lag_le fs h)

pub first_le_last : (fs lag : ℕ) → least_lag fs ≤ lag → lag ≤ greatest_lag fs → 12 ≤ fs → first_tried fs lag ≤ last_tried fs lag
unfolding first_tried last_tried
first_le_last fs lag h l r = let g = greatest_lag_ge fs r in omega arith

pub first_low : (fs lag : ℕ) → 2 * fs ≤ first_tried fs lag
unfolding first_tried
first_low fs lag = omega arith

-- ---- the numbers of a lag's pairs

next_row : (d f : ℕ) → f ≤ d → d + 1 - f ≡ (d - f) + 1
next_row d f h = omega arith

more_row : (x c : ℕ) → (x + 1) * c ≡ x * c + c
more_row x c = omega arith

pub row_end : (d f c : ℕ) → f ≤ d → (d + 1 - f) * c ≡ (d - f) * c + c
row_end d f c h = ap (λ (x : ℕ). x * c) (next_row d f h) ∙ more_row (d - f) c
