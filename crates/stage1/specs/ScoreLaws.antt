-- Laws of stage 1's correlations and scores.
use Rattle.std.specs.Prelude.{Option, Some, None, ◌≡◌, refl, Bool, true, ◌⊎◌, ℕ, suc, ◌+◌, ◌-◌, ◌*◌, ◌/◌, ◌≤◌, ◌<◌, ℤ, pos, ◌-ℤ◌, ◌*ℤ◌, length, drop, replicate, false, cond, List, ◌+ℤ◌, eqb, get_or}
use Rattle.std.proofs.Common.{◌∙◌, ⊎_elim, lit<, lit≤, drop-drop, sym, ap, ap₂, arith}
use Rattle.std.proofs.Math.Decide.{dec_lt}
use Rattle.std.specs.Int.{w16, w32}
use Rattle.zint.specs.Wrap.{wrap, mod_z}
use Rattle.zint.specs.WrapLaws.{wraps, wrap_add_l}
use Rattle.zint.specs.DiffLaws.{v, n, ◌⊕◌, ◌⊖◌, ◌⊗◌, ring}
use Rattle.lists.specs.Signal.{sample}
use Rattle.lists.specs.Fill.{tabulate, filled}
use Rattle.lists.specs.FillLaws.{filled_all, tabulate_ext, get_d_tabulate}
use Rattle.best.specs.Best.{some}
use Rattle.best.specs.BestLaws.{some_true, some_false, some_ext}
use Rattle.best.specs.PairLaws.{some_pairs}
use Rattle.silk_sigproc.specs.Dot.{dot}
use Rattle.silk_sigproc.specs.DotLaws.{dot_slide}
use Rattle.silk_macros.specs.Macros.{smulbb}
use Rattle.silk_macros.specs.Divide.{quotient, by_zero, low16_of}
use Rattle.stage1.specs.Stage1.{target1, cross_sum1, target_energy1, basis_energy1, divisor_sum1, cross1, divisor1, quotient1, divisors1, half_no, lag_no1, zero1, corr1, sum1, biased1, score1, scores1}
use Rattle.stage1.specs.Steps.{quotient_at, quotients, zero_in, half_frame, scored}

-- ---- the correlations and the divisors along the lags

-- the kernel's list, which starts at the last lag
pub cross_all : (f : List ℤ) (h : ℕ) → filled (λ k. wrap w32 (dot (drop (80 + 40 * h) f) (drop k (drop (80 + 40 * h - 72) f)) 40)) 65 (replicate 65 (pos 0)) ≡ tabulate (λ i. cross1 f h (72 - i)) 65
unfolding cross1 cross_sum1 target1
cross_all f h =
    filled_all _ 65 (replicate 65 (pos 0)) (lit≤ tt)
    ∙ tabulate_ext 65 (λ k l.
    let e : 80 + 40 * h - 72 + k ≡ 80 + 40 * h - (72 - k) = omega arith in
    ap (λ (y : List ℤ). wrap w32 (dot (drop (80 + 40 * h) f) y 40)) (drop-drop k (80 + 40 * h - 72) f ∙ ap (λ (m : ℕ). drop m f) e))

floor : smulbb (pos 40) (pos 4000) ≡ pos 160000
unfolding smulbb wrap mod_z
floor = refl

-- the divisor of the first lag, as it is summed
pub divisor_first : (f : List ℤ) (h : ℕ)
    → wrap w32 (wrap w32 (wrap w32 (dot (drop (80 + 40 * h) f) (drop (80 + 40 * h) f) 40) +ℤ wrap w32 (dot (drop (80 + 40 * h - 8) f) (drop (80 + 40 * h - 8) f) 40)) +ℤ smulbb (pos 40) (pos 4000))
    ≡ divisor1 f h 8
unfolding divisor1 divisor_sum1 target_energy1 basis_energy1 target1
divisor_first f h = simp (wraps, floor)

slid : (t d p q : ℤ) → t +ℤ d +ℤ pos 160000 +ℤ (p -ℤ q) ≡ t +ℤ (d -ℤ q +ℤ p) +ℤ pos 160000
slid t d p q = ring (v t ⊕ v d ⊕ n 160000 ⊕ (v p ⊖ v q)) (v t ⊕ (v d ⊖ v q ⊕ v p) ⊕ n 160000) (omega arith)

come_gone : (z p q : ℤ) → z -ℤ q +ℤ p ≡ z +ℤ (p -ℤ q)
come_gone z p q = ring (v z ⊖ v q ⊕ v p) (v z ⊕ (v p ⊖ v q)) (omega arith)

-- the divisor of the next lag: a sample comes and one goes
pub divisor_next : (f : List ℤ) (h i : ℕ) → 1 ≤ i → i < 65
    → wrap w32 (divisor1 f h (8 + (i - 1)) -ℤ sample f (72 + 40 * h - i + 40) *ℤ sample f (72 + 40 * h - i + 40) +ℤ sample f (72 + 40 * h - i) *ℤ sample f (72 + 40 * h - i)) ≡ divisor1 f h (8 + i)
unfolding divisor1 divisor_sum1 target_energy1 basis_energy1 target1
divisor_next f h i l u =
    let b = 72 + 40 * h - i in
    let eb : 80 + 40 * h - (8 + i) ≡ b = omega arith in
    let es : 80 + 40 * h - (8 + (i - 1)) ≡ suc b = omega arith in
    let p = sample f b *ℤ sample f b in
    let q = sample f (b + 40) *ℤ sample f (b + 40) in
    let T = dot (drop (80 + 40 * h) f) (drop (80 + 40 * h) f) 40 in
    let D = dot (drop (suc b) f) (drop (suc b) f) 40 in
    ap (wrap w32) (come_gone (divisor1 f h (8 + (i - 1))) p q)
    ∙ ap (λ (m : ℕ). wrap w32 (wrap w32 (T +ℤ dot (drop m f) (drop m f) 40 +ℤ pos 160000) +ℤ (p -ℤ q))) es
    ∙ wrap_add_l w32 (T +ℤ D +ℤ pos 160000) (p -ℤ q)
    ∙ ap (wrap w32) (slid T D p q)
    ∙ ap (λ (x : ℤ). wrap w32 (T +ℤ x +ℤ pos 160000)) (sym (dot_slide f b 40))
    ∙ ap (λ (m : ℕ). wrap w32 (T +ℤ dot (drop m f) (drop m f) 40 +ℤ pos 160000)) (sym eb)

-- ---- quotients

-- a quotient that has a value
pub value_low : {q : Option ℤ} {z : ℤ} → q ≡ Some z → (by_zero q ≡ false) × (low16_of q ≡ wrap w16 z)
value_low e = (ap by_zero e, ap low16_of e)

-- no divisor is zero, and the array is filled
pub no_divisor_zero : (xs ns c : List ℤ) → ((i : ℕ) → i < 65 → by_zero (quotient_at xs ns i) ≡ false) → c ≡ filled (λ i. low16_of (quotient_at xs ns i)) 65 (replicate 65 (pos 0)) → Some c ≡ quotients xs ns
unfolding quotients
no_divisor_zero xs ns c h e =
    ap Some (e ∙ filled_all (λ i. low16_of (quotient_at xs ns i)) 65 (replicate 65 (pos 0)) (lit≤ tt))
    ∙ sym (ap (λ (t : Bool). cond t None (Some (tabulate (λ i. low16_of (quotient_at xs ns i)) 65))) (some_false 65 _ h))

-- a divisor is zero
pub a_divisor_zero : (xs ns : List ℤ) (i : ℕ) → i < 65 → quotient_at xs ns i ≡ None → None ≡ quotients xs ns
unfolding quotients
a_divisor_zero xs ns i l e = sym (ap (λ (t : Bool). cond t None (Some (tabulate (λ i. low16_of (quotient_at xs ns i)) 65))) (some_true 65 _ i l (ap by_zero e)))

-- the arrays of a half-frame hold what its quotients are taken of
module _ (f : List ℤ) (h : ℕ) where
  quotient_at_is : (xs ns : List ℤ) → xs ≡ tabulate (λ i. cross1 f h (72 - i)) 65 → ns ≡ tabulate (λ i. divisor1 f h (8 + i)) 65 → (i : ℕ) → i < 65 → quotient_at xs ns i ≡ quotient1 f h (8 + i)
  unfolding quotient1 sample
  quotient_at_is xs ns ex en i l =
      let e : 72 - (64 - i) ≡ 8 + i = omega arith in
      ap₂ (λ (x y : List ℤ). quotient_at x y i) ex en
      ∙ ap₂ (λ (x y : ℤ). quotient x y (pos 14))
      (get_d_tabulate (λ k. cross1 f h (72 - k)) 65 (64 - i) (pos 0) (omega arith) ∙ ap (cross1 f h) e)
      (get_d_tabulate (λ k. divisor1 f h (8 + k)) 65 i (pos 0) l)

  pub half_frame_of : (xs ns : List ℤ) → xs ≡ tabulate (λ i. cross1 f h (72 - i)) 65 → ns ≡ tabulate (λ i. divisor1 f h (8 + i)) 65 → quotients xs ns ≡ half_frame f h
  unfolding quotients half_frame zero_in corr1
  half_frame_of xs ns ex en =
      ap₂ (λ (t : Bool) (l : List ℤ). cond t None (Some l))
      (some_ext 65 _ _ (λ i l. ap by_zero (quotient_at_is xs ns ex en i l)))
      (tabulate_ext 65 (λ i l. ap low16_of (quotient_at_is xs ns ex en i l)))

-- ---- the scores

-- there is one half-frame or there are two, within the signal
pub first_fits : {nb : ℕ} (f : List ℤ) → (nb ≡ 2) ⊎ (nb ≡ 4) → (20 + 5 * nb) * 4 ≤ length f → 120 ≤ length f
first_fits {nb} f s l = ⊎_elim (λ (e : nb ≡ 2). omega arith) (λ (e : nb ≡ 4). omega arith) s

pub one_or_two : {nb : ℕ} → (nb ≡ 2) ⊎ (nb ≡ 4) → (nb ≡ 4 → ⊥) → nb ≡ 2
one_or_two s g = ⊎_elim (λ e. e) (λ e. absurd (g e)) s

pub some_half : {nb : ℕ} → (nb ≡ 2) ⊎ (nb ≡ 4) → 0 < nb / 2
some_half {nb} s = ⊎_elim (λ (e : nb ≡ 2). omega arith) (λ (e : nb ≡ 4). omega arith) s

twice : (z : ℤ) → z +ℤ z ≡ pos 2 *ℤ z
twice z = ring (v z ⊕ v z) (n 2 ⊗ v z) (omega arith)

-- the numbered divisors, half-frame by half-frame
pub zero1_halves : (f : List ℤ) (nb : ℕ) → zero1 f nb ≡ some (nb / 2) (zero_in f)
unfolding zero1 divisors1 half_no lag_no1 zero_in
zero1_halves f nb = some_pairs (nb / 2) 65 (λ h i. by_zero (quotient1 f h (8 + i))) (lit< tt)

-- a half-frame's answer, way by way
module _ (f : List ℤ) (h : ℕ) where
  by_test : (t : Bool) → zero_in f h ≡ t → half_frame f h ≡ cond t None (Some (tabulate (λ i. corr1 f h (8 + i)) 65))
  unfolding half_frame
  by_test t e = ap (λ (b : Bool). cond b None (Some (tabulate (λ i. corr1 f h (8 + i)) 65))) e

  pub half_none : half_frame f h ≡ None → zero_in f h ≡ true
  half_none e = by (zero_in f h) refl
    where
      by : (t : Bool) → zero_in f h ≡ t → zero_in f h ≡ true
      by true z = z
      by false z = let q : Some (tabulate (λ i. corr1 f h (8 + i)) 65) ≡ None = sym (by_test false z) ∙ e in cc

  pub half_some : (a : List ℤ) → half_frame f h ≡ Some a → (zero_in f h ≡ false) × (a ≡ tabulate (λ i. corr1 f h (8 + i)) 65)
  half_some a e = by (zero_in f h) refl
    where
      by : (t : Bool) → zero_in f h ≡ t → (zero_in f h ≡ false) × (a ≡ tabulate (λ i. corr1 f h (8 + i)) 65)
      by true z = let q : None ≡ Some a = sym (by_test true z) ∙ e in cc
      by false z = let q : Some (tabulate (λ i. corr1 f h (8 + i)) 65) ≡ Some a = sym (by_test false z) ∙ e in (z, cc)

module _ (f : List ℤ) (nb : ℕ) where
  -- a zero divisor in half-frame h
  pub scored_zero : (h : ℕ) → h < nb / 2 → half_frame f h ≡ None → None ≡ scored f nb
  unfolding scored
  scored_zero h l e = sym (ap (λ (t : Bool). cond t None (Some (scores1 f nb))) (zero1_halves f nb ∙ some_true (nb / 2) (zero_in f) h l (half_none f h e)))

  -- the scores from the correlations of half-frames 0 and h
  combined : (h : ℕ) → ((d : ℕ) → corr1 f 0 d +ℤ corr1 f h d ≡ sum1 f nb d) → (a b : List ℤ) → a ≡ tabulate (λ i. corr1 f 0 (8 + i)) 65 → b ≡ tabulate (λ i. corr1 f h (8 + i)) 65
      → tabulate (λ i. biased1 (sample a i +ℤ sample b i) (8 + i)) 65 ≡ scores1 f nb
  unfolding scores1 score1 sample
  combined h s a b ea eb =
      tabulate_ext 65 (λ i l.
      ap (λ (z : ℤ). biased1 z (8 + i))
      (ap₂ ◌+ℤ◌
      (ap (λ (x : List ℤ). get_or x i (pos 0)) ea ∙ get_d_tabulate (λ k. corr1 f 0 (8 + k)) 65 i (pos 0) l)
      (ap (λ (x : List ℤ). get_or x i (pos 0)) eb ∙ get_d_tabulate (λ k. corr1 f h (8 + k)) 65 i (pos 0) l)
      ∙ s (8 + i)))

  -- no half-frame has a zero divisor
  all_scored : (c : List ℤ) → ((h : ℕ) → h < nb / 2 → zero_in f h ≡ false) → c ≡ scores1 f nb → Some c ≡ scored f nb
  unfolding scored
  all_scored c g e = ap Some e ∙ sym (ap (λ (t : Bool). cond t None (Some (scores1 f nb))) (zero1_halves f nb ∙ some_false (nb / 2) (zero_in f) g))

  -- one half-frame, which counts twice
  pub scored_one : (a c : List ℤ) → nb ≡ 2 → half_frame f 0 ≡ Some a → c ≡ tabulate (λ i. biased1 (sample a i +ℤ sample a i) (8 + i)) 65 → Some c ≡ scored f nb
  unfolding sum1
  scored_one a c n2 e ec =
      let r = half_some f 0 a e in
      all_scored c (λ h l. let z : h ≡ 0 = omega arith in ap (zero_in f) z ∙ r.0)
      (ec ∙ combined 0 (λ d. twice (corr1 f 0 d) ∙ sym (ap (λ (t : Bool). cond t (corr1 f 0 d +ℤ corr1 f 1 d) (pos 2 *ℤ corr1 f 0 d)) (ap (λ (m : ℕ). eqb m 4) n2))) a a r.1 r.1)

  -- two half-frames
  pub scored_two : (a b c : List ℤ) → nb ≡ 4 → half_frame f 0 ≡ Some a → half_frame f 1 ≡ Some b → c ≡ tabulate (λ i. biased1 (sample a i +ℤ sample b i) (8 + i)) 65 → Some c ≡ scored f nb
  unfolding sum1
  scored_two a b c n4 e e' ec =
      let r = half_some f 0 a e in
      let r' = half_some f 1 b e' in
      all_scored c (λ h l. by_half h r.0 r'.0 (dec_lt h 1) (omega arith))
      (ec ∙ combined 1 (λ d. sym (ap (λ (t : Bool). cond t (corr1 f 0 d +ℤ corr1 f 1 d) (pos 2 *ℤ corr1 f 0 d)) (ap (λ (m : ℕ). eqb m 4) n4))) a b r.1 r'.1)
    where
      by_half : (h : ℕ) → zero_in f 0 ≡ false → zero_in f 1 ≡ false → Dec (h < 1) → h < 2 → zero_in f h ≡ false
      by_half h z z' (yes l) u = let q : h ≡ 0 = omega arith in ap (zero_in f) q ∙ z
      by_half h z z' (no l) u = let q : h ≡ 1 = omega arith in ap (zero_in f) q ∙ z'

  -- the scores' answer, way by way
  scored_test : (t : Bool) → zero1 f nb ≡ t → scored f nb ≡ cond t None (Some (scores1 f nb))
  unfolding scored
  scored_test t e = ap (λ (b : Bool). cond b None (Some (scores1 f nb))) e

  pub scored_none : scored f nb ≡ None → zero1 f nb ≡ true
  scored_none e = by (zero1 f nb) refl
    where
      by : (t : Bool) → zero1 f nb ≡ t → zero1 f nb ≡ true
      by true z = z
      by false z = let q : Some (scores1 f nb) ≡ None = sym (scored_test false z) ∙ e in cc

  pub scored_some : (a : List ℤ) → scored f nb ≡ Some a → (zero1 f nb ≡ false) × (a ≡ scores1 f nb)
  scored_some a e = by (zero1 f nb) refl
    where
      by : (t : Bool) → zero1 f nb ≡ t → (zero1 f nb ≡ false) × (a ≡ scores1 f nb)
      by true z = let q : None ≡ Some a = sym (scored_test true z) ∙ e in cc
      by false z = let q : Some (scores1 f nb) ≡ Some a = sym (scored_test false z) ∙ e in (z, cc)
