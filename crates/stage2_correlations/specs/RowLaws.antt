-- Laws of a subframe's row: a ratio way by way, the divisor from running energies, one lag more, and the row at the marks of the kept lags.
use Rattle.std.specs.Prelude.{Option, Some, None, unwrap_or, is_none, ◌≡◌, refl, Bool, true, false, ◌&&◌, ◌||◌, cond, List, ℕ, ◌+◌, ◌-◌, ◌<◌, ◌≤◌, ℤ, pos, nat_abs, ◌+ℤ◌, ◌-ℤ◌, ◌*ℤ◌, get_or, drop}
use Rattle.std.proofs.Common.{ap, ap₂, ◌∙◌, add-one, arith, lit<, sym}
use Rattle.std.proofs.Math.Bool.{or-false, or-true}
use Rattle.std.proofs.Math.IntN.{+ℤ_assoc}
use Rattle.std.specs.Int.Signed.{lt_z}
use Rattle.std.specs.Int.{w16, w32}
use Rattle.zint.specs.Wrap.{wrap}
use Rattle.zint.specs.WrapLaws.{wraps, wrap_fits}
use Rattle.zint.specs.BoundLaws.{fits_abs}
use Rattle.lists.specs.Signal.{sample}
use Rattle.lists.specs.Fill.{tabulate}
use Rattle.lists.specs.FillLaws.{get_d_tabulate, tabulate_ext}
use Rattle.best.specs.Best.{some}
use Rattle.best.specs.BestLaws.{some_ext}
use Rattle.best.specs.PairLaws.{some_pairs}
use Rattle.silk_macros.specs.Divide.{quotient, low16_of, by_zero}
use Rattle.silk_sigproc.specs.Dot.{dot, energy_sum}
use Rattle.silk_sigproc.specs.DotLaws.{dot_slide}
use Rattle.stage2_correlations.specs.Marks.{near, marked, measured}
use Rattle.stage2_correlations.specs.MarkLaws.{too_high}
use Rattle.stage2_correlations.specs.Correlations.{target2, cross_sum2, target_energy2, basis_energy2, divisor_sum2, cross2, divisor2, quotient2, correlation2, zero_reached2, divisors2, subframe_no, lag_no2, zero2}
use Rattle.stage2_correlations.specs.Rows.{reached_ratio, ratio_of, at_lag, value_at, zero_at, row_by, subframe_row}

-- ---- the quotient's two answers

module _ (x n : ℤ) where
  pub ratio_none : lt_z (pos 0) x ≡ false → Some (pos 0) ≡ ratio_of x n
  unfolding ratio_of
  ratio_none h = sym (ap (λ (t : Bool). reached_ratio t (quotient x n (pos 14))) h)

  pub ratio_value : (q : ℤ) → lt_z (pos 0) x ≡ true → quotient x n (pos 14) ≡ Some q → Some (wrap w16 q) ≡ ratio_of x n
  unfolding ratio_of
  ratio_value q h e = sym (ap₂ reached_ratio h e)

  pub ratio_zero : lt_z (pos 0) x ≡ true → quotient x n (pos 14) ≡ None → None ≡ ratio_of x n
  unfolding ratio_of
  ratio_zero h e = sym (ap₂ reached_ratio h e)

-- ---- the divisor from the two energies, and the basis energy one sample earlier

pub divisor_is : (e : List ℤ) (k d : ℕ) → wrap w32 (wrap w32 (wrap w32 (energy_sum e (target2 k) 40) +ℤ pos 1) +ℤ wrap w32 (energy_sum e (target2 k - d) 40)) ≡ divisor2 e k d
unfolding divisor2 divisor_sum2 target_energy2 basis_energy2
divisor_is e k d = simp wraps

pub energy_back : (e : List ℤ) (b : ℕ) (z : ℤ) → z ≡ wrap w32 (energy_sum e (b + 1) 40)
    → wrap w32 (z -ℤ get_or e (b + 40) (pos 0) *ℤ get_or e (b + 40) (pos 0) +ℤ get_or e b (pos 0) *ℤ get_or e b (pos 0)) ≡ wrap w32 (energy_sum e b 40)
unfolding sample
energy_back e b z h =
    let g = get_or e (b + 40) (pos 0) in
    let f = get_or e b (pos 0) in
    ap (λ (y : ℤ). wrap w32 (y -ℤ g *ℤ g +ℤ f *ℤ f)) (h ∙ ap (λ (m : ℕ). wrap w32 (dot (drop m e) (drop m e) 40)) (add-one b))
    ∙ (simp (wraps, +ℤ_assoc))
    ∙ ap (wrap w32) (sym (dot_slide e b 40))

-- ---- one lag more

pub at_lag_is : (e : List ℤ) (m : List Bool) (k i : ℕ) (n : ℤ) → n ≡ divisor2 e k (14 + i)
    → at_lag (get_or m i false) e (target2 k) (14 + i) n ≡ cond (zero_at e m k i) None (Some (value_at e m k i))
unfolding at_lag ratio_of cross2 cross_sum2 quotient2
at_lag_is e m k i n h =
    let x = wrap w32 (dot (drop (target2 k) e) (drop (target2 k - (14 + i)) e) 40) in
    ap (λ (z : ℤ). cond (get_or m i false) (ratio_of x z) (Some (pos 0))) h ∙ by (get_or m i false) (lt_z (pos 0) x) (quotient x (divisor2 e k (14 + i)) (pos 14))
  where
    by : (t u : Bool) (q : Option ℤ) → cond t (reached_ratio u q) (Some (pos 0)) ≡ cond (t && (u && by_zero q)) None (Some (cond t (cond u (low16_of q) (pos 0)) (pos 0)))
    by true true (Some q) = refl
    by true true None = refl
    by true false q = refl
    by false u q = refl

-- a lag's number is 0 where its divisor is zero, and none is there exactly then
pub lag_value : (e : List ℤ) (m : List Bool) (k i : ℕ) → unwrap_or (cond (zero_at e m k i) None (Some (value_at e m k i))) (pos 0) ≡ value_at e m k i
lag_value e m k i = by (get_or m i false) (lt_z (pos 0) (cross2 e k (14 + i))) (quotient2 e k (14 + i))
  where
    by : (t u : Bool) (q : Option ℤ) → unwrap_or (cond (t && (u && by_zero q)) None (Some (cond t (cond u (low16_of q) (pos 0)) (pos 0)))) (pos 0) ≡ cond t (cond u (low16_of q) (pos 0)) (pos 0)
    by true true (Some q) = refl
    by true true None = refl
    by true false q = refl
    by false u q = refl

pub lag_zero : (t : Bool) (y : ℤ) → is_none (cond t None (Some y)) ≡ t
lag_zero true y = refl
lag_zero false y = refl

pub some_next : (n : ℕ) (t : ℕ → Bool) → some (n + 1) t ≡ (some n t || t n)
unfolding some
some_next n t = ap (λ (m : ℕ). some m t) (add-one n)

-- one place more: the test holds there, or not
pub some_more : (n : ℕ) (t : ℕ → Bool) {z : Bool} → t n ≡ true → z ≡ true → z ≡ some (n + 1) t
some_more n t e f = f ∙ sym (some_next n t ∙ ap (λ (b : Bool). some n t || b) e ∙ or-true (some n t))

pub some_same : (n : ℕ) (t : ℕ → Bool) {z : Bool} → t n ≡ false → z ≡ some n t → z ≡ some (n + 1) t
some_same n t e f = f ∙ sym (some_next n t ∙ ap (λ (b : Bool). some n t || b) e ∙ or-false (some n t))

-- ---- the row at the marks of the kept lags

pub subframe_row_kept : (e : List ℤ) (kept : List ℕ) (k : ℕ)
    → subframe_row e (tabulate (λ i. measured kept (14 + i)) 132) k ≡ row_by (some 132 (λ i. zero_reached2 e kept k (14 + i))) (tabulate (λ i. correlation2 e kept k (14 + i)) 132)
unfolding subframe_row correlation2 zero_reached2
subframe_row_kept e kept k =
    let marks = tabulate (λ i. measured kept (14 + i)) 132 in
    let m : (i : ℕ) → i < 132 → get_or marks i false ≡ measured kept (14 + i) = λ i h. get_d_tabulate _ 132 i false h in
    let v : ℕ → ℤ = λ i. cond (lt_z (pos 0) (cross2 e k (14 + i))) (low16_of (quotient2 e k (14 + i))) (pos 0) in
    let z : ℕ → Bool = λ i. lt_z (pos 0) (cross2 e k (14 + i)) && by_zero (quotient2 e k (14 + i)) in
    ap₂ row_by
    (some_ext 132 (zero_at e marks k) (λ i. measured kept (14 + i) && z i) (λ i h. ap (λ (b : Bool). b && z i) (m i h)))
    (tabulate_ext {f = value_at e marks k} {g = λ i. cond (measured kept (14 + i)) (v i) (pos 0)} 132 (λ i h. ap (λ (b : Bool). cond b (v i) (pos 0)) (m i h)))

-- ---- a correlation has 16 bits

low16_small : (a : Option ℤ) → nat_abs (low16_of a) ≤ 32768
low16_small (Some q) = fits_abs (wrap_fits w16 q)
low16_small None = omega arith

cond_small : (t : Bool) (z : ℤ) → nat_abs z ≤ 32768 → nat_abs (cond t z (pos 0)) ≤ 32768
cond_small true z h = h
cond_small false z h = omega arith

pub correlation_small : (e : List ℤ) (kept : List ℕ) (k d : ℕ) → nat_abs (correlation2 e kept k d) ≤ 32768
unfolding correlation2
correlation_small e kept k d =
    let q = quotient2 e k d in
    cond_small (measured kept d) (cond (lt_z (pos 0) (cross2 e k d)) (low16_of q) (pos 0)) (cond_small (lt_z (pos 0) (cross2 e k d)) (low16_of q) (low16_small q))

-- ---- the numbered divisors, subframe by subframe, and the lags of a row

-- a divisor of subframe k is reached and zero
unfoldable pub zero_in2 : List ℤ → List ℕ → ℕ → Bool
zero_in2 e kept k = some 131 (λ i. zero_reached2 e kept k (14 + i))

pub zero2_subframes : (e : List ℤ) (kept : List ℕ) (nb : ℕ) → zero2 e kept nb ≡ some nb (zero_in2 e kept)
unfolding zero2 divisors2 subframe_no lag_no2 zero_in2
zero2_subframes e kept nb = some_pairs nb 131 (λ k i. zero_reached2 e kept k (14 + i)) (lit< tt)

-- the last lag of a row, 145, is never measured
pub zero_row : (e : List ℤ) (kept : List ℕ) (k : ℕ) → some 132 (λ i. zero_reached2 e kept k (14 + i)) ≡ zero_in2 e kept k
unfolding zero_in2 zero_reached2 measured marked
zero_row e kept k =
    let l : 144 < 145 = lit< tt in
    let h : zero_reached2 e kept k 145 ≡ false = ap (λ (t : Bool). t && (lt_z (pos 0) (cross2 e k 145) && by_zero (quotient2 e k 145))) (too_high 14 144 145 (near kept 2 3 145) l) in
    some_next 131 (λ i. zero_reached2 e kept k (14 + i)) ∙ ap (λ (b : Bool). some 131 (λ i. zero_reached2 e kept k (14 + i)) || b) h ∙ or-false (some 131 (λ i. zero_reached2 e kept k (14 + i)))
