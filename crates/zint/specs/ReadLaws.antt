-- What the bits of a signed local stand for. `Reads w m z`: the bits m, of the width w, are those of the number z. There is one rule for each operation of the
-- machine, so that a derivation follows the code's expression: `r_add (r_cast ra) (r_cast rb)` for `a as i64 + b as i64`. `.val` is the equation that a `returns` or a
-- callee's `requires` wants, and `.fit` that the number fits.
use Rattle.std.specs.Prelude.{◌≡◌, refl, Bool, ℕ, zero, suc, ◌-◌, ◌*◌, ◌%◌, ◌^◌, ◌≤◌, ◌<◌, T, leb, ltb, ℤ, pos, negsuc, nat_abs, ◌+ℤ◌, ◌-ℤ◌, ◌*ℤ◌, bit_and}
use Rattle.std.proofs.Common.{sym, ap, ap₂, ◌∙◌, subst, lt_of_lt_of_le, mod-lt, zero-lt-suc, ltb→lt, pow_pos, Fits, SFits, to_z, of_z}
use Rattle.std.proofs.lemmas.Nat.{and_mask}
use Rattle.std.specs.Int.Signed.{mag, non_neg, shr_z, quot_z, lt_z, le_z}
use Rattle.std.specs.Int.{Width, w16, w32, w64}
use Rattle.std.proofs.lemmas.Int.{to_z-of_z, to_z_pos}
use mir.Val.{bits, hbits}
use mir.ValLaws.{of_z_fits, Fits-wrap, to_z-neg, half_full}
use Rattle.zint.specs.Wrap.{wrap, mod_z}
use Rattle.zint.specs.WrapLaws.{wrap_fits, shl_wrap, mod_z_is, Cong, cong_sym, cong_trans, cong_part, to_z_cong, mod_cong}
use Rattle.zint.specs.BoundLaws.{shr_fits, widen}

pub record Reads (w : Width) (m : ℕ) (z : ℤ) : Type 0 where
  pub val : to_z w m ≡ z
  pub fit : SFits w z
  pub room : Fits w m

-- a parameter, `r_var c.fits.x`, and a call's result, `r_var (sfits_of (c.f.ok ..))`
pub r_var : {w : Width} {z : ℤ} → SFits w z → Reads w (of_z w z) z
r_var {w} {z} f = record { val = to_z-of_z w z f; fit = f; room = of_z_fits w z f }

-- an element of a slice, with what its read gives: `r_elem w16 (get_or xs i (pos 0)) c.x.given`
pub r_elem : (w : Width) (z : ℤ) → mag z < 2 ^ hbits w → Reads w (of_z w z) z
r_elem w z l = r_var (record { sfits = l })

-- a number from 0 up, and a literal
pub r_nat : (w : Width) (m : ℕ) → m < 2 ^ hbits w → Reads w m (pos m)
r_nat w m h = record { val = to_z_pos w m h; fit = record { sfits = h }; room = record { fits = half_full w h } }

pub r_lit : (w : Width) (m : ℕ) → T (ltb m (2 ^ hbits w)) → Reads w m (pos m)
r_lit w m t = r_nat w m (ltb→lt m (2 ^ hbits w) t)

-- a negative literal, -(k + 1)
pub r_neg : (w : Width) (k : ℕ) → T (ltb k (2 ^ hbits w)) → Reads w (2 ^ bits w - suc k) (negsuc k)
r_neg w k t =
    let f : SFits w (negsuc k) = record { sfits = ltb→lt k (2 ^ hbits w) t } in
    record { val = to_z-neg w k (ltb→lt k (2 ^ hbits w) t); fit = f; room = of_z_fits w (negsuc k) f }

-- other bits, by an equation
pub r_bits : {w : Width} {m n : ℕ} {a : ℤ} → m ≡ n → Reads w n a → Reads w m a
r_bits {w} {m} {n} {a} e p = subst (λ (x : ℕ). Reads w x a) (sym e) p

-- the same bits, as another expression of the number
pub r_as : {w : Width} {m : ℕ} {a b : ℤ} → Reads w m a → a ≡ b → Reads w m b
r_as {w} p e = record { val = p.val ∙ e; fit = subst (SFits w) e p.fit; room = p.room }

-- the bits of a number that is z, where z fits: the result of an operation that is read by its signed value
pub r_is : {w : Width} {x z : ℤ} → x ≡ z → SFits w z → Reads w (of_z w x) z
r_is {w} {x} {z} e f = record { val = ap (λ (y : ℤ). to_z w (of_z w y)) e ∙ to_z-of_z w z f; fit = f; room = of_z_fits w x (subst (SFits w) (sym e) f) }

pub r_add : {w : Width} {m n : ℕ} {a b : ℤ} → Reads w m a → Reads w n b → SFits w (a +ℤ b) → Reads w (of_z w (to_z w m +ℤ to_z w n)) (a +ℤ b)
r_add p q f = r_is (ap₂ (λ (x y : ℤ). x +ℤ y) p.val q.val) f

pub r_sub : {w : Width} {m n : ℕ} {a b : ℤ} → Reads w m a → Reads w n b → SFits w (a -ℤ b) → Reads w (of_z w (to_z w m -ℤ to_z w n)) (a -ℤ b)
r_sub p q f = r_is (ap₂ (λ (x y : ℤ). x -ℤ y) p.val q.val) f

pub r_mul : {w : Width} {m n : ℕ} {a b : ℤ} → Reads w m a → Reads w n b → SFits w (a *ℤ b) → Reads w (of_z w (to_z w m *ℤ to_z w n)) (a *ℤ b)
r_mul p q f = r_is (ap₂ (λ (x y : ℤ). x *ℤ y) p.val q.val) f

pub r_div : {w : Width} {m n : ℕ} {a b : ℤ} → Reads w m a → Reads w n b → SFits w (quot_z a b) → Reads w (of_z w (quot_z (to_z w m) (to_z w n))) (quot_z a b)
r_div p q f = r_is (ap₂ (λ (x y : ℤ). quot_z x y) p.val q.val) f

pub r_cast : {w w' : Width} {m : ℕ} {a : ℤ} → Reads w m a → SFits w' a → Reads w' (of_z w' (to_z w m)) a
r_cast p f = r_is p.val f

-- a parameter, or a call's result, that is widened
pub wide : (w w' : Width) {a : ℤ} → T (leb (2 ^ hbits w) (2 ^ hbits w')) → SFits w a → Reads w' (of_z w' (to_z w (of_z w a))) a
wide w w' t f = r_cast (r_var f) (widen w w' t f)

pub wide_32 : {a : ℤ} → SFits w16 a → Reads w32 (of_z w32 (to_z w16 (of_z w16 a))) a
wide_32 f = wide w16 w32 tt f

pub wide_64 : {a : ℤ} → SFits w32 a → Reads w64 (of_z w64 (to_z w32 (of_z w32 a))) a
wide_64 f = wide w32 w64 tt f

-- a call's result, as what the callee ensures it to be: `r_got w32 c.f.ok c.f.ensures`
pub r_got : (w : Width) {r z : ℤ} → mag r < 2 ^ hbits w → r ≡ z → Reads w (of_z w r) z
r_got w {r} {z} l e = r_is e (subst (SFits w) e (record { sfits = l }))

-- the same where the callee's `ensures` says `r ≡ F x`, of one argument, two or three: `r_call1 w32 F c.f.ok rx c.f.ensures`, with rx the reading of the argument
pub r_call1 : (w : Width) {w₁ : Width} {r x : ℤ} {m : ℕ} (F : ℤ → ℤ) → mag r < 2 ^ hbits w → Reads w₁ m x → r ≡ F (to_z w₁ m) → Reads w (of_z w r) (F x)
r_call1 w F l p e = r_got w l (e ∙ ap F p.val)

pub r_call2 : (w : Width) {w₁ w₂ : Width} {r x y : ℤ} {m n : ℕ} (F : ℤ → ℤ → ℤ) → mag r < 2 ^ hbits w → Reads w₁ m x → Reads w₂ n y → r ≡ F (to_z w₁ m) (to_z w₂ n) → Reads w (of_z w r) (F x y)
r_call2 w F l p q e = r_got w l (e ∙ ap₂ F p.val q.val)

pub r_call3 : (w : Width) {w₁ w₂ w₃ : Width} {r x y z : ℤ} {m n k : ℕ} (F : ℤ → ℤ → ℤ → ℤ) → mag r < 2 ^ hbits w → Reads w₁ m x → Reads w₂ n y → Reads w₃ k z → r ≡ F (to_z w₁ m) (to_z w₂ n) (to_z w₃ k) → Reads w (of_z w r) (F x y z)
r_call3 w F l p q o e = r_got w l (e ∙ (λ i. F (p.val i) (q.val i) (o.val i)))

-- `a >> k`: m is 2 ^ k
pub r_shr : {w : Width} {n : ℕ} {a : ℤ} (m : ℕ) → Reads w n a → Reads w (of_z w (shr_z (to_z w n) m)) (shr_z a m)
r_shr {w} {n} {a} m p = r_is (ap (λ (x : ℤ). shr_z x m) p.val) (shr_fits a m p.fit)

-- `a << k`: m is 2 ^ k
pub r_shl : {w : Width} {n : ℕ} {a : ℤ} (m : ℕ) → Reads w n a → Reads w ((n * m) % 2 ^ bits w) (wrap w (a *ℤ pos m))
r_shl {w} {n} {a} m p = record {
  val = shl_wrap w n m p.room ∙ ap (λ (x : ℤ). wrap w (x *ℤ pos m)) p.val;
  fit = wrap_fits w (a *ℤ pos m);
  room = Fits-wrap w (n * m);
}

-- `a & (2 ^ k - 1)`: the low k digits, k below the width. P is 2 ^ (bits w - k)
pub r_mask : {w : Width} {n : ℕ} {a : ℤ} (k P : ℕ) → 2 ^ bits w ≡ 2 ^ k * P → 2 ^ k ≤ 2 ^ hbits w → Reads w n a → Reads w (bit_and n (2 ^ k - 1)) (pos (mod_z a (2 ^ k)))
r_mask {w} {n} {a} k P e h p = r_bits (and_mask n k) (r_as low (ap pos (sym same)))
  where
    below : n % 2 ^ k < 2 ^ hbits w
    below = lt_of_lt_of_le (mod-lt n (pow_pos k)) h

    low : Reads w (n % 2 ^ k) (pos (n % 2 ^ k))
    low = record { val = to_z_pos w (n % 2 ^ k) below; fit = record { sfits = below }; room = record { fits = half_full w below } }

    full : Cong (2 ^ k * P) (pos n) a
    full = subst (λ (m : ℕ). Cong m (pos n) a) e (cong_sym (subst (λ (z : ℤ). Cong (2 ^ bits w) z (pos n)) p.val (to_z_cong w n p.room)))

    same : mod_z a (2 ^ k) ≡ n % 2 ^ k
    same = mod_z_is a (2 ^ k) (n % 2 ^ k) (mod-lt n (pow_pos k)) (cong_trans (mod_cong n (2 ^ k)) (cong_part (2 ^ k) P full))

-- a fact of the numbers that were read, as a need asks it of the bits
pub f_add : {w : Width} {m n : ℕ} {a b : ℤ} → Reads w m a → Reads w n b → SFits w (a +ℤ b) → SFits w (to_z w m +ℤ to_z w n)
f_add {w} p q f = subst (SFits w) (sym (ap₂ (λ (x y : ℤ). x +ℤ y) p.val q.val)) f

pub f_sub : {w : Width} {m n : ℕ} {a b : ℤ} → Reads w m a → Reads w n b → SFits w (a -ℤ b) → SFits w (to_z w m -ℤ to_z w n)
f_sub {w} p q f = subst (SFits w) (sym (ap₂ (λ (x y : ℤ). x -ℤ y) p.val q.val)) f

pub f_mul : {w : Width} {m n : ℕ} {a b : ℤ} → Reads w m a → Reads w n b → SFits w (a *ℤ b) → SFits w (to_z w m *ℤ to_z w n)
f_mul {w} p q f = subst (SFits w) (sym (ap₂ (λ (x y : ℤ). x *ℤ y) p.val q.val)) f

pub f_cast : {w w' : Width} {m : ℕ} {a : ℤ} → Reads w m a → SFits w' a → SFits w' (to_z w m)
f_cast {w} {w'} p f = subst (SFits w') (sym p.val) f

-- what a division asks of its divisor: its bits are not 0
pub bits_pos : {w : Width} {m : ℕ} {z : ℤ} → Reads w m z → (z ≡ pos 0 → ⊥) → 0 < m
bits_pos {w} {m} {z} p g = go m refl
  where
    go : (k : ℕ) → m ≡ k → 0 < k
    go zero e = absurd (g (sym p.val ∙ ap (to_z w) e ∙ to_z_pos w 0 (pow_pos (hbits w))))
    go (suc k) e = zero-lt-suc k

-- `x as u32` of a signed x that is k
pub as_unsigned : (w : Width) {x : ℤ} (k : ℕ) → x ≡ pos k → k < 2 ^ bits w → T (non_neg x) × Fits w (nat_abs x)
as_unsigned w k e h = subst (λ (z : ℤ). T (non_neg z) × Fits w (nat_abs z)) (sym e) (tt, record { fits = h })

-- a test on two signed numbers, as it stands in `c`, at the numbers
pub via_lt : (x y a b : ℤ) (t : Bool) → lt_z x y ≡ t → x ≡ a → y ≡ b → lt_z a b ≡ t
via_lt x y a b t e p q = sym (ap₂ lt_z p q) ∙ e

pub via_le : (x y a b : ℤ) (t : Bool) → le_z x y ≡ t → x ≡ a → y ≡ b → le_z a b ≡ t
via_le x y a b t e p q = sym (ap₂ le_z p q) ∙ e

-- the same by a derivation, against another number and against a literal k
pub t_lt : {w : Width} {m n : ℕ} {a b : ℤ} {t : Bool} → Reads w m a → Reads w n b → lt_z (to_z w m) (to_z w n) ≡ t → lt_z a b ≡ t
t_lt p q e = via_lt _ _ _ _ _ e p.val q.val

pub t_le : {w : Width} {m n : ℕ} {a b : ℤ} {t : Bool} → Reads w m a → Reads w n b → le_z (to_z w m) (to_z w n) ≡ t → le_z a b ≡ t
t_le p q e = via_le _ _ _ _ _ e p.val q.val

pub t_above : (k : ℤ) {w : Width} {n : ℕ} {b : ℤ} {t : Bool} → Reads w n b → lt_z k (to_z w n) ≡ t → lt_z k b ≡ t
t_above k {b} p e = via_lt k _ k b _ e refl p.val

pub t_below : (k : ℤ) {w : Width} {n : ℕ} {b : ℤ} {t : Bool} → Reads w n b → lt_z (to_z w n) k ≡ t → lt_z b k ≡ t
t_below k {b} p e = via_lt _ k b k _ e p.val refl

-- for `search`: the reading of the bits that a `returns` shows, and of a call's result
pub val_of : {w : Width} {m : ℕ} {z : ℤ} → Reads w m z → to_z w m ≡ z
val_of p = p.val

-- what a callee ensures of its arguments' bits, `r ≡ F x y`, at the numbers that they are: `search (zneeds, via2 F)`
pub via1 : (F : ℤ → ℤ) (x a r : ℤ) → r ≡ F x → x ≡ a → r ≡ F a
via1 F x a r e p = e ∙ ap F p

pub via2 : (F : ℤ → ℤ → ℤ) (x y a b r : ℤ) → r ≡ F x y → x ≡ a → y ≡ b → r ≡ F a b
via2 F x y a b r e p q = e ∙ ap₂ F p q

pub via3 : (F : ℤ → ℤ → ℤ → ℤ) (x y z a b c r : ℤ) → r ≡ F x y z → x ≡ a → y ≡ b → z ≡ c → r ≡ F a b c
via3 F x y z a b c r e p q o = e ∙ (λ i. F (p i) (q i) (o i))

pub via_wrap : (w : Width) (x a r : ℤ) → r ≡ wrap w x → x ≡ a → r ≡ wrap w a
via_wrap w = via1 (wrap w)

-- a fact that is asked of what was read, at the number that it is, as a callee's `requires` is
pub r_holds : (P : ℤ → Type 0) {w : Width} {m : ℕ} {z : ℤ} → Reads w m z → P z → P (to_z w m)
r_holds P p h = subst P (sym p.val) h

-- a fit that is asked of what was read, at the number that it is: `fit_as f (search zneeds)`
pub fit_as : {w : Width} {x z : ℤ} → SFits w z → x ≡ z → SFits w x
fit_as {w} f e = subst (SFits w) (sym e) f

pub eq_add : (x y a b : ℤ) → x ≡ a → y ≡ b → x +ℤ y ≡ a +ℤ b
eq_add x y a b p q = ap₂ (λ (s t : ℤ). s +ℤ t) p q

pub eq_sub : (x y a b : ℤ) → x ≡ a → y ≡ b → x -ℤ y ≡ a -ℤ b
eq_sub x y a b p q = ap₂ (λ (s t : ℤ). s -ℤ t) p q

pub eq_mul : (x y a b : ℤ) → x ≡ a → y ≡ b → x *ℤ y ≡ a *ℤ b
eq_mul x y a b p q = ap₂ (λ (s t : ℤ). s *ℤ t) p q

pub ruleset reading = (val_of, eq_add, eq_sub, eq_mul, r_lit, r_neg, r_var, r_got, r_add, r_sub, r_mul, r_div, r_cast, r_shr, r_shl, via_wrap, via_lt, via_le)
