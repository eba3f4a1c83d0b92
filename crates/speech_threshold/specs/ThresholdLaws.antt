-- Laws of the threshold from the speech: what the call says; what the ranges say; the value as a plain sum, its bounds, and that it is a number of 16 bits.
use Rattle.std.specs.Prelude.{Ok, Err, Bool, ◌&&◌, ℕ, ℤ, ◌+ℤ◌, ◌*ℤ◌, ◌≤ℤ◌, [], ◌∷◌, ◌≡◌, refl, true, false, cond, eqb, pos}
use Rattle.std.proofs.Common.{ap₂, ◌∙◌, SFits, eq-eqb, ne_eqb, eqb-true, arith, sym, ap, subst}
use Rattle.std.specs.Int.Signed.{shr_z, le_z}
use Rattle.std.specs.Int.{w16, w32}
use Rattle.answers.specs.Answer.{answer_numbers}
use Rattle.zint.specs.BoolLaws.{and_left, and_right, and_yes}
use Rattle.zint.specs.Clamp.{sat}
use Rattle.zint.specs.ClampLaws.{sat_fits, clamp_in}
use Rattle.zint.specs.DiffLaws.{v, n, ◌⊕◌, ◌⊗◌, le_by, sfits_by, sfits_of_ud, le_of, mul_ud, zarith}
use Rattle.zint.specs.Minus.{minus}
use Rattle.zint.specs.OrderLaws.{le_yes, lt_no, ≤ℤ_trans}
use Rattle.zint.specs.TestLaws.{le_true}
use Rattle.zint.specs.Wrap.{wrap}
use Rattle.zint.specs.WrapLaws.{wrap_id, shr_ud, mod_z_lt}
use Rattle.silk_macros.specs.Macros.{smulbb, smulwb, smlabb, smlawb, rshift}
use Rattle.speech_threshold.specs.Threshold.{less_order, less_activity, less_type, less_tilt, threshold_value, plain_threshold, within, in_range, InRange, threshold_no, threshold_call, threshold_answer_numbers}

-- ---- what the call says, for every four numbers
module _ (o a s t : ℤ) where
  pub says_threshold : threshold_no o a s t ≡ 0 → threshold_call o a s t ≡ Ok (threshold_value o a s t)
  unfolding threshold_call
  says_threshold e = ap (λ (b : Bool). cond b (Ok (threshold_value o a s t)) (Err (threshold_no o a s t))) (eq-eqb (threshold_no o a s t) 0 e)

  pub says_refused : (threshold_no o a s t ≡ 0 → ⊥) → threshold_call o a s t ≡ Err (threshold_no o a s t)
  unfolding threshold_call
  says_refused g = ap (λ (b : Bool). cond b (Ok (threshold_value o a s t)) (Err (threshold_no o a s t))) (ne_eqb (threshold_no o a s t) 0 g)

  -- in numbers
  pub answered_in_numbers : threshold_answer_numbers (threshold_call o a s t) ≡ answer_numbers (threshold_no o a s t) (threshold_value o a s t ∷ [])
  unfolding threshold_call
  answered_in_numbers = by (eqb (threshold_no o a s t) 0) refl
    where
      by : (b : Bool) → eqb (threshold_no o a s t) 0 ≡ b
          → threshold_answer_numbers (cond b (Ok (threshold_value o a s t)) (Err (threshold_no o a s t))) ≡ pos (threshold_no o a s t) ∷ cond b (threshold_value o a s t ∷ []) []
      by true e = ap (λ (n : ℕ). pos n ∷ threshold_value o a s t ∷ []) (sym (eqb-true (threshold_no o a s t) 0 e))
      by false e = refl

-- ---- the ranges: the test holds exactly where the four numbers are in their ranges, and then nothing is refused; else 11 is said
module _ (o a s t : ℤ) where
  pub in_range_says : in_range o a s t ≡ true → InRange o a s t
  unfolding in_range
  in_range_says e =
      let x3 = within (pos 0) (pos 16) o && within (pos 0) (pos 255) a && within (pos 0) (pos 2) s in
      let x2 = within (pos 0) (pos 16) o && within (pos 0) (pos 255) a in
      let e3 = and_left x3 (within (minus 32768) (pos 32767) t) e in
      let e2 = and_left x2 (within (pos 0) (pos 2) s) e3 in
      let k1 = and_left (within (pos 0) (pos 16) o) (within (pos 0) (pos 255) a) e2 in
      let k2 = and_right (within (pos 0) (pos 16) o) (within (pos 0) (pos 255) a) e2 in
      let k3 = and_right x2 (within (pos 0) (pos 2) s) e3 in
      let k4 = and_right x3 (within (minus 32768) (pos 32767) t) e in
      record {
        order_from = from (pos 0) (pos 16) o k1;
        order_to = to (pos 0) (pos 16) o k1;
        activity_from = from (pos 0) (pos 255) a k2;
        activity_to = to (pos 0) (pos 255) a k2;
        type_from = from (pos 0) (pos 2) s k3;
        type_to = to (pos 0) (pos 2) s k3;
        tilt_from = from (minus 32768) (pos 32767) t k4;
        tilt_to = to (minus 32768) (pos 32767) t k4;
      }
    where
      from : (low high z : ℤ) → within low high z ≡ true → low ≤ℤ z
      from low high z k = le_true low z (and_left (le_z low z) (le_z z high) k)

      to : (low high z : ℤ) → within low high z ≡ true → z ≤ℤ high
      to low high z k = le_true z high (and_right (le_z low z) (le_z z high) k)

  pub in_range_holds : InRange o a s t → in_range o a s t ≡ true
  unfolding in_range
  in_range_holds r =
      let k1 : within (pos 0) (pos 16) o ≡ true = is r.order_from r.order_to in
      let k2 : within (pos 0) (pos 255) a ≡ true = is r.activity_from r.activity_to in
      let k3 : within (pos 0) (pos 2) s ≡ true = is r.type_from r.type_to in
      sym (and_yes (sym (and_yes (sym (and_yes k1 (sym k2))) (sym k3))) (sym (is r.tilt_from r.tilt_to)))
    where
      is : {low high z : ℤ} → low ≤ℤ z → z ≤ℤ high → within low high z ≡ true
      is h k = sym (and_yes (le_yes h) (sym (le_yes k)))

  pub accepted : InRange o a s t → threshold_no o a s t ≡ 0
  unfolding threshold_no
  accepted r = ap (λ (b : Bool). cond b 0 11) (in_range_holds r)

  pub accepted_says : threshold_no o a s t ≡ 0 → InRange o a s t
  unfolding threshold_no
  accepted_says e = in_range_says (by (in_range o a s t) e)
    where
      by : (b : Bool) → ◌≡◌ {A = ℕ} (cond b 0 11) 0 → b ≡ true
      by true e = refl
      by false e = absurd (omega arith)

  pub refused_is_11 : (threshold_no o a s t ≡ 0 → ⊥) → threshold_no o a s t ≡ 11
  unfolding threshold_no
  refused_is_11 = by (in_range o a s t)
    where
      by : (b : Bool) → (◌≡◌ {A = ℕ} (cond b 0 11) 0 → ⊥) → ◌≡◌ {A = ℕ} (cond b 0 11) 11
      by true g = absurd (g refl)
      by false g = refl

-- ---- the value in range, as a plain sum: no step wraps, and the saturation never acts

-- a step that does not wrap
plain_smlabb : (x b c : ℤ) → SFits w16 b → SFits w16 c → SFits w32 (x +ℤ b *ℤ c) → smlabb x b c ≡ x +ℤ b *ℤ c
unfolding smlabb smulbb
plain_smlabb x b c p q f = ap₂ (λ (y z : ℤ). wrap w32 (x +ℤ y *ℤ z)) (wrap_id w16 b p) (wrap_id w16 c q) ∙ wrap_id w32 (x +ℤ b *ℤ c) f

plain_smlawb : (x b c : ℤ) → SFits w16 c → SFits w32 (x +ℤ shr_z (b *ℤ c) 65536) → smlawb x b c ≡ x +ℤ shr_z (b *ℤ c) 65536
unfolding smlawb smulwb
plain_smlawb x b c q f = ap (λ (z : ℤ). wrap w32 (x +ℤ shr_z (b *ℤ z) 65536)) (wrap_id w16 c q) ∙ wrap_id w32 (x +ℤ shr_z (b *ℤ c) 65536) f

module _ {o a s t : ℤ} (r : InRange o a s t) where
  -- what the activity, the type and the tilt add
  activity_least : minus 816 ≤ℤ shr_z (minus 209715 *ℤ a) 65536
  activity_least =
      le_of (minus 816) (shr_z (minus 209715 *ℤ a) 65536)
      (omega (zarith, shr_ud (minus 209715 *ℤ a) 65536 (omega arith), mod_z_lt (minus 209715 *ℤ a) 65536 (omega arith), mul_ud (minus 209715) a))

  activity_most : shr_z (minus 209715 *ℤ a) 65536 ≤ℤ pos 0
  activity_most = le_of (shr_z (minus 209715 *ℤ a) 65536) (pos 0) (omega (zarith, shr_ud (minus 209715 *ℤ a) 65536 (omega arith), mul_ud (minus 209715) a))

  type_least : pos 0 ≤ℤ shr_z s 2
  type_least = le_of (pos 0) (shr_z s 2) (omega (zarith, shr_ud s 2 (omega arith), mod_z_lt s 2 (omega arith)))

  type_most : shr_z s 2 ≤ℤ pos 1
  type_most = le_of (shr_z s 2) (pos 1) (omega (zarith, shr_ud s 2 (omega arith)))

  tilt_least : minus 819 ≤ℤ shr_z (minus 1638 *ℤ t) 65536
  tilt_least =
      le_of (minus 819) (shr_z (minus 1638 *ℤ t) 65536)
      (omega (zarith, shr_ud (minus 1638 *ℤ t) 65536 (omega arith), mod_z_lt (minus 1638 *ℤ t) 65536 (omega arith), mul_ud (minus 1638) t))

  tilt_most : shr_z (minus 1638 *ℤ t) 65536 ≤ℤ pos 819
  tilt_most = le_of (shr_z (minus 1638 *ℤ t) 65536) (pos 819) (omega (zarith, shr_ud (minus 1638 *ℤ t) 65536 (omega arith), mul_ud (minus 1638) t))

  fits_order : SFits w16 o
  fits_order = sfits_of_ud w16 o (omega zarith) (omega zarith)

  fits_activity : SFits w16 a
  fits_activity = sfits_of_ud w16 a (omega zarith) (omega zarith)

  fits_type : SFits w16 (shr_z s 2)
  fits_type = let h = type_least in let k = type_most in sfits_of_ud w16 (shr_z s 2) (omega zarith) (omega zarith)

  fits_tilt : SFits w16 t
  fits_tilt = sfits_of_ud w16 t (omega zarith) (omega zarith)

  order_plain : less_order o ≡ pos 4915 +ℤ minus 33 *ℤ o
  unfolding less_order
  order_plain = plain_smlabb (pos 4915) (minus 33) o (record { sfits = omega arith }) fits_order (sfits_by w32 (n 4915 ⊕ v (minus 33) ⊗ v o) (omega zarith) (omega zarith))

  activity_plain : less_activity o a ≡ pos 4915 +ℤ minus 33 *ℤ o +ℤ shr_z (minus 209715 *ℤ a) 65536
  unfolding less_activity
  activity_plain =
      let h = activity_least in
      let k = activity_most in
      ap (λ (x : ℤ). smlawb x (minus 209715) a) order_plain
      ∙ plain_smlawb (pos 4915 +ℤ minus 33 *ℤ o) (minus 209715) a fits_activity
      (sfits_by w32 (n 4915 ⊕ v (minus 33) ⊗ v o ⊕ v (shr_z (minus 209715 *ℤ a) 65536)) (omega zarith) (omega zarith))

  type_plain : less_type o a s ≡ pos 4915 +ℤ minus 33 *ℤ o +ℤ shr_z (minus 209715 *ℤ a) 65536 +ℤ minus 1229 *ℤ shr_z s 2
  unfolding less_type
  type_plain =
      let h = activity_least in
      let k = activity_most in
      let p = type_least in
      let q = type_most in
      ap (λ (x : ℤ). smlabb x (minus 1229) (rshift s 1)) activity_plain
      ∙ plain_smlabb (pos 4915 +ℤ minus 33 *ℤ o +ℤ shr_z (minus 209715 *ℤ a) 65536) (minus 1229) (shr_z s 2) (record { sfits = omega arith }) fits_type
      (sfits_by w32 (n 4915 ⊕ v (minus 33) ⊗ v o ⊕ v (shr_z (minus 209715 *ℤ a) 65536) ⊕ v (minus 1229) ⊗ v (shr_z s 2)) (omega zarith) (omega zarith))

  -- in range the sum lies from 1523 (order 16, activity 255, type 2, tilt 32767) to 5734 (order, activity and type 0, tilt -32768)
  plain_least : pos 1523 ≤ℤ plain_threshold o a s t
  plain_least =
      let h = activity_least in
      let p = type_most in
      let q = tilt_least in
      le_by (n 1523) (n 4915 ⊕ v (minus 33) ⊗ v o ⊕ v (shr_z (minus 209715 *ℤ a) 65536) ⊕ v (minus 1229) ⊗ v (shr_z s 2) ⊕ v (shr_z (minus 1638 *ℤ t) 65536)) (omega zarith)

  plain_most : plain_threshold o a s t ≤ℤ pos 5734
  plain_most =
      let h = activity_most in
      let p = type_least in
      let q = tilt_most in
      le_by (n 4915 ⊕ v (minus 33) ⊗ v o ⊕ v (shr_z (minus 209715 *ℤ a) 65536) ⊕ v (minus 1229) ⊗ v (shr_z s 2) ⊕ v (shr_z (minus 1638 *ℤ t) 65536)) (n 5734) (omega zarith)

  tilt_plain : less_tilt o a s t ≡ plain_threshold o a s t
  unfolding less_tilt
  tilt_plain =
      let h = plain_least in
      let k = plain_most in
      ap (λ (x : ℤ). smlawb x (minus 1638) t) type_plain
      ∙ plain_smlawb (pos 4915 +ℤ minus 33 *ℤ o +ℤ shr_z (minus 209715 *ℤ a) 65536 +ℤ minus 1229 *ℤ shr_z s 2) (minus 1638) t fits_tilt
      (sfits_of_ud w32 (plain_threshold o a s t) (omega zarith) (omega zarith))

  -- the saturation never acts
  pub never_saturated : threshold_value o a s t ≡ less_tilt o a s t
  unfolding threshold_value sat
  never_saturated =
      let x = less_tilt o a s t in
      let h : pos 1523 ≤ℤ x = subst (λ (z : ℤ). pos 1523 ≤ℤ z) (sym tilt_plain) plain_least in
      let k : x ≤ℤ pos 5734 = subst (λ (z : ℤ). z ≤ℤ pos 5734) (sym tilt_plain) plain_most in
      sym (clamp_in (minus 32768) (pos 32767) x x refl (lt_no (≤ℤ_trans k (le_by (n 5734) (n 32767) (omega arith)))) (lt_no (≤ℤ_trans (le_of (minus 32768) (pos 1523) (omega arith)) h)))

  -- the threshold is the plain sum
  pub threshold_plain : threshold_value o a s t ≡ plain_threshold o a s t
  threshold_plain = never_saturated ∙ tilt_plain

  -- and lies between whole bounds, both reached
  pub threshold_least : pos 1523 ≤ℤ threshold_value o a s t
  threshold_least = subst (λ (z : ℤ). pos 1523 ≤ℤ z) (sym threshold_plain) plain_least

  pub threshold_most : threshold_value o a s t ≤ℤ pos 5734
  threshold_most = subst (λ (z : ℤ). z ≤ℤ pos 5734) (sym threshold_plain) plain_most

-- ---- for every four numbers
module _ (o a s t : ℤ) where
  -- the threshold is a number of 16 bits
  pub threshold_fits : SFits w16 (threshold_value o a s t)
  unfolding threshold_value
  threshold_fits = sat_fits w16 (less_tilt o a s t)

  -- so its low 16 bits, which stage 2 takes of thres2, are itself
  pub threshold_low_bits : wrap w16 (threshold_value o a s t) ≡ threshold_value o a s t
  threshold_low_bits = wrap_id w16 (threshold_value o a s t) threshold_fits

-- types 0 and 1, a signal that is not there and one that is unvoiced, give the same
pub no_and_unvoiced_same : (o a t : ℤ) → threshold_value o a (pos 0) t ≡ threshold_value o a (pos 1) t
unfolding threshold_value less_tilt less_type
no_and_unvoiced_same o a t = refl
