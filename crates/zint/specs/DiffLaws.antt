-- An integer as the difference of two naturals, `up z - dn z`, one of which is 0. An order or an equation of integers is one of naturals
-- (`up a + dn b` against `up b + dn a`), which `omega` proves. `Ex` writes an integer expression; `pos_part e` and `neg_part e` are two naturals whose
-- difference is its value, by +, * alone, so that `omega` sees the variables' `up` and `dn` and nothing else.
use Rattle.std.specs.Prelude.{◌≡◌, refl, Bool, true, false, not, cond, ℕ, zero, suc, ◌+◌, ◌-◌, ◌*◌, ◌^◌, ◌≤◌, ◌<◌, T, ltb, ℤ, pos, negsuc, neg_ℤ, ◌+ℤ◌, ◌-ℤ◌, ◌*ℤ◌, ◌≤ℤ◌, ◌<ℤ◌}
use Rattle.std.proofs.Common.{ap, subst, arith, ltb→lt, lt→ltb, nltb→le, leb→le, le→leb, SFits}
use Rattle.std.proofs.Math.IntN.{sub_ℕ}
use Rattle.std.specs.Int.Signed.{mag, lt_z, le_z}
use Rattle.std.specs.Int.{Width}
use mir.Val.{hbits}

abbrev pub up : ℤ → ℕ
up (pos n) = n
up (negsuc n) = 0

abbrev pub dn : ℤ → ℕ
dn (pos n) = 0
dn (negsuc n) = suc n

-- ---- how the operations act

cond_ud : (c : Bool) (a b : ℕ) → (T c → a < b) → (T (not c) → b ≤ a) → up (cond c (negsuc (b - suc a)) (pos (a - b))) + b ≡ a + dn (cond c (negsuc (b - suc a)) (pos (a - b)))
cond_ud true a b f g = let h = f tt in omega arith
cond_ud false a b f g = let h = g tt in omega arith

pub sub_ud : (a b : ℕ) → up (sub_ℕ a b) + b ≡ a + dn (sub_ℕ a b)
sub_ud a b = cond_ud (ltb a b) a b (ltb→lt a b) (nltb→le a b)

pub add_ud : (a b : ℤ) → up (a +ℤ b) + (dn a + dn b) ≡ up a + up b + dn (a +ℤ b)
add_ud (pos a) (pos b) = omega arith
add_ud (pos a) (negsuc b) = omega (arith, sub_ud a (suc b))
add_ud (negsuc a) (pos b) = omega (arith, sub_ud b (suc a))
add_ud (negsuc a) (negsuc b) = omega arith

pub up_neg : (a : ℤ) → up (neg_ℤ a) ≡ dn a
up_neg (pos zero) = refl
up_neg (pos (suc n)) = refl
up_neg (negsuc n) = refl

pub dn_neg : (a : ℤ) → dn (neg_ℤ a) ≡ up a
dn_neg (pos zero) = refl
dn_neg (pos (suc n)) = refl
dn_neg (negsuc n) = refl

pub sub_ud' : (a b : ℤ) → up (a -ℤ b) + (dn a + up b) ≡ up a + dn b + dn (a -ℤ b)
sub_ud' a b = omega (arith, add_ud a (neg_ℤ b), up_neg b, dn_neg b)

pub mul_ud : (a b : ℤ) → up (a *ℤ b) + (up a * dn b + dn a * up b) ≡ up a * up b + dn a * dn b + dn (a *ℤ b)
mul_ud (pos a) (pos b) = omega arith
mul_ud (pos a) (negsuc b) = omega (arith, up_neg (pos (a * suc b)), dn_neg (pos (a * suc b)))
mul_ud (negsuc a) (pos b) = omega (arith, up_neg (pos (suc a * b)), dn_neg (pos (suc a * b)))
mul_ud (negsuc a) (negsuc b) = omega arith

-- ---- what two differences say

pub eq_of : (a b : ℤ) → up a + dn b ≡ up b + dn a → a ≡ b
eq_of (pos a) (pos b) h = ap pos (omega arith)
eq_of (pos a) (negsuc b) h = absurd (omega arith)
eq_of (negsuc a) (pos b) h = absurd (omega arith)
eq_of (negsuc a) (negsuc b) h = ap negsuc (omega arith)

pub of_eq : (a b : ℤ) → a ≡ b → up a + dn b ≡ up b + dn a
of_eq a b e = subst (λ (x : ℤ). up a + dn x ≡ up x + dn a) e refl

pub le_of : (a b : ℤ) → up a + dn b ≤ up b + dn a → a ≤ℤ b
le_of (pos a) (pos b) h = record { le = le→leb a b (omega arith) }
le_of (pos a) (negsuc b) h = absurd (omega arith)
le_of (negsuc a) (pos b) h = record { le = tt }
le_of (negsuc a) (negsuc b) h = record { le = le→leb b a (omega arith) }

pub lt_of : (a b : ℤ) → up a + dn b < up b + dn a → a <ℤ b
lt_of (pos a) (pos b) h = record { lt = lt→ltb a b (omega arith) }
lt_of (pos a) (negsuc b) h = absurd (omega arith)
lt_of (negsuc a) (pos b) h = record { lt = tt }
lt_of (negsuc a) (negsuc b) h = record { lt = lt→ltb b a (omega arith) }

of_le' : (a b : ℤ) → T (le_z a b) → up a + dn b ≤ up b + dn a
of_le' (pos a) (pos b) t = omega (arith, leb→le a b t)
of_le' (pos a) (negsuc b) t = absurd t
of_le' (negsuc a) (pos b) t = omega arith
of_le' (negsuc a) (negsuc b) t = omega (arith, leb→le b a t)

pub of_le : {a b : ℤ} → a ≤ℤ b → up a + dn b ≤ up b + dn a
of_le {a} {b} h = of_le' a b h.le

of_lt' : (a b : ℤ) → T (lt_z a b) → up a + dn b < up b + dn a
of_lt' (pos a) (pos b) t = omega (arith, ltb→lt a b t)
of_lt' (pos a) (negsuc b) t = absurd t
of_lt' (negsuc a) (pos b) t = omega arith
of_lt' (negsuc a) (negsuc b) t = omega (arith, ltb→lt b a t)

pub of_lt : {a b : ℤ} → a <ℤ b → up a + dn b < up b + dn a
of_lt {a} {b} h = of_lt' a b h.lt

-- a number that is not negative
pub nonneg_dn : {z : ℤ} → pos 0 ≤ℤ z → dn z ≡ 0
nonneg_dn {z = pos n} h = refl
nonneg_dn {z = negsuc n} h = absurd h.le

pub positive_dn : {z : ℤ} → pos 0 <ℤ z → dn z ≡ 0
positive_dn {z = pos n} h = refl
positive_dn {z = negsuc n} h = absurd h.lt

pub negative_up : {z : ℤ} → z <ℤ pos 0 → up z ≡ 0
negative_up {z = pos n} h = omega (arith, ltb→lt n 0 h.lt)
negative_up {z = negsuc n} h = refl

mag_of : (z : ℤ) (H : ℕ) → up z < H + dn z → dn z ≤ H + up z → mag z < H
mag_of (pos n) H h k = omega arith
mag_of (negsuc n) H h k = omega arith

pub sfits_of_ud : (w : Width) (z : ℤ) → up z < 2 ^ hbits w + dn z → dn z ≤ 2 ^ hbits w + up z → SFits w z
sfits_of_ud w z h k = record { sfits = mag_of z (2 ^ hbits w) h k }

pub of_mag_up : (z : ℤ) (H : ℕ) → mag z < H → up z < H
of_mag_up (pos n) H h = h
of_mag_up (negsuc n) H h = omega arith

pub of_mag_dn : (z : ℤ) (H : ℕ) → mag z < H → dn z ≤ H
of_mag_dn (pos n) H h = omega arith
of_mag_dn (negsuc n) H h = h

pub sfits_up : {w : Width} {z : ℤ} → SFits w z → up z < 2 ^ hbits w
sfits_up {w} {z} f = of_mag_up z (2 ^ hbits w) f.sfits

pub sfits_dn : {w : Width} {z : ℤ} → SFits w z → dn z ≤ 2 ^ hbits w
sfits_dn {w} {z} f = of_mag_dn z (2 ^ hbits w) f.sfits

-- ---- expressions

infixl 6 ◌⊕◌ ◌⊖◌
infixl 7 ◌⊗◌
pub data Ex : Type 0 where
  v : ℤ → Ex
  n : ℕ → Ex
  ◌⊕◌ ◌⊖◌ ◌⊗◌ : Ex → Ex → Ex

abbrev pub val : Ex → ℤ
val (v z) = z
val (n k) = pos k
val (a ⊕ b) = val a +ℤ val b
val (a ⊖ b) = val a -ℤ val b
val (a ⊗ b) = val a *ℤ val b

abbrev mutual
  pub pos_part : Ex → ℕ
  pos_part (v z) = up z
  pos_part (n k) = k
  pos_part (a ⊕ b) = pos_part a + pos_part b
  pos_part (a ⊖ b) = pos_part a + neg_part b
  pos_part (a ⊗ b) = pos_part a * pos_part b + neg_part a * neg_part b

  pub neg_part : Ex → ℕ
  neg_part (v z) = dn z
  neg_part (n k) = 0
  neg_part (a ⊕ b) = neg_part a + neg_part b
  neg_part (a ⊖ b) = neg_part a + pos_part b
  neg_part (a ⊗ b) = pos_part a * neg_part b + neg_part a * pos_part b

mul_sound : (x y : ℤ) (p q r s : ℕ) → up x + q ≡ p + dn x → up y + s ≡ r + dn y
    → up (x *ℤ y) + (p * s + q * r) ≡ p * r + q * s + dn (x *ℤ y)
mul_sound x y p q r s A B =
    omega (arith, mul_ud x y, ap (λ (t : ℕ). t * up y) A, ap (λ (t : ℕ). t * dn y) A, ap (λ (t : ℕ). p * t) B, ap (λ (t : ℕ). q * t) B)

pub sound : (e : Ex) → up (val e) + neg_part e ≡ pos_part e + dn (val e)
sound (v z) = refl
sound (n k) = refl
sound (a ⊕ b) = omega (arith, add_ud (val a) (val b), sound a, sound b)
sound (a ⊖ b) = omega (arith, sub_ud' (val a) (val b), sound a, sound b)
sound (a ⊗ b) = mul_sound (val a) (val b) (pos_part a) (neg_part a) (pos_part b) (neg_part b) (sound a) (sound b)

-- the value of an expression, from what `omega` shows of `pos_part` and `neg_part`
pub ring : (a b : Ex) → pos_part a + neg_part b ≡ pos_part b + neg_part a → val a ≡ val b
ring a b h = eq_of (val a) (val b) (omega (arith, sound a, sound b))

pub le_by : (a b : Ex) → pos_part a + neg_part b ≤ pos_part b + neg_part a → val a ≤ℤ val b
le_by a b h = le_of (val a) (val b) (omega (arith, sound a, sound b))

pub lt_by : (a b : Ex) → pos_part a + neg_part b < pos_part b + neg_part a → val a <ℤ val b
lt_by a b h = lt_of (val a) (val b) (omega (arith, sound a, sound b))

pub sfits_by : (w : Width) (e : Ex) → pos_part e < 2 ^ hbits w + neg_part e → neg_part e ≤ 2 ^ hbits w + pos_part e → SFits w (val e)
sfits_by w e h k = sfits_of_ud w (val e) (omega (arith, sound e)) (omega (arith, sound e))

-- and what a fact of an expression's value says of them, for `omega`'s list
pub eq_in : (a b : Ex) → val a ≡ val b → pos_part a + neg_part b ≡ pos_part b + neg_part a
eq_in a b e = omega (arith, of_eq (val a) (val b) e, sound a, sound b)

pub le_in : (a b : Ex) → val a ≤ℤ val b → pos_part a + neg_part b ≤ pos_part b + neg_part a
le_in a b e = omega (arith, of_le e, sound a, sound b)

pub lt_in : (a b : Ex) → val a <ℤ val b → pos_part a + neg_part b < pos_part b + neg_part a
lt_in a b e = omega (arith, of_lt e, sound a, sound b)

-- the rules by which `omega` reads facts of ℤ that are in reach: `omega zarith`
pub ruleset zarith = (arith, of_le, of_lt, of_eq, sfits_up, sfits_dn)
