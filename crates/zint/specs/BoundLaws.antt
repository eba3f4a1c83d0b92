-- Bounds on integers. A bound is on the size, `nat_abs z ≤ K`: it is kept by a product and a sum, and gives the fit of a width.
use Rattle.std.specs.Prelude.{◌≡◌, refl, ℕ, zero, suc, ◌+◌, ◌*◌, ◌^◌, ◌≤◌, ◌<◌, T, leb, ltb, ℤ, pos, negsuc, neg_ℤ, nat_abs, ◌+ℤ◌, ◌-ℤ◌, ◌*ℤ◌}
use Rattle.std.proofs.Common.{mul-le-mul, le_trans, le_of_eq, lt_of_le_of_lt, lt_of_lt_of_le, div-lt_iff_lt-mul, arith, ltb→lt, leb→le, SFits}
use Rattle.std.specs.Int.Signed.{mag, shr_z, mag_shr, nat_abs-le}
use Rattle.std.specs.Int.{Width, w16, w32, w64}
use mir.Val.{hbits}
use mir.ValLaws.{sfits_le}
use Rattle.zint.specs.DiffLaws.{up, dn, add_ud, sub_ud'}

pub abs_ud : (z : ℤ) → nat_abs z ≡ up z + dn z
abs_ud (pos n) = omega arith
abs_ud (negsuc n) = omega arith

pub abs_neg : (z : ℤ) → nat_abs (neg_ℤ z) ≡ nat_abs z
abs_neg (pos zero) = refl
abs_neg (pos (suc n)) = refl
abs_neg (negsuc n) = refl

pub abs_mul : (a b : ℤ) → nat_abs (a *ℤ b) ≡ nat_abs a * nat_abs b
abs_mul (pos a) (pos b) = refl
abs_mul (pos a) (negsuc b) = abs_neg (pos (a * suc b))
abs_mul (negsuc a) (pos b) = abs_neg (pos (suc a * b))
abs_mul (negsuc a) (negsuc b) = refl

-- a sum's size
sum_le : (z : ℤ) (p q : ℕ) → up z + q ≡ p + dn z → nat_abs z ≤ p + q
sum_le (pos n) p q e = omega arith
sum_le (negsuc n) p q e = omega arith

pub abs_add : {A B : ℕ} (a b : ℤ) → nat_abs a ≤ A → nat_abs b ≤ B → nat_abs (a +ℤ b) ≤ A + B
abs_add a b h k = omega (arith, sum_le (a +ℤ b) (up a + up b) (dn a + dn b) (add_ud a b), abs_ud a, abs_ud b)

pub abs_sub : {A B : ℕ} (a b : ℤ) → nat_abs a ≤ A → nat_abs b ≤ B → nat_abs (a -ℤ b) ≤ A + B
abs_sub a b h k = omega (arith, sum_le (a -ℤ b) (up a + dn b) (dn a + up b) (sub_ud' a b), abs_ud a, abs_ud b)

pub abs_prod : {A B : ℕ} (a b : ℤ) → nat_abs a ≤ A → nat_abs b ≤ B → nat_abs (a *ℤ b) ≤ A * B
abs_prod a b h k = le_trans (le_of_eq (abs_mul a b)) (mul-le-mul h k)

mag_le_abs : (z : ℤ) → mag z ≤ nat_abs z
mag_le_abs (pos n) = omega arith
mag_le_abs (negsuc n) = omega arith

-- between a width and a bound on the size
pub fits_abs : {w : Width} {z : ℤ} → SFits w z → nat_abs z ≤ 2 ^ hbits w
fits_abs {w} {z} f = nat_abs-le z f.sfits

pub abs_fits : {w : Width} {K : ℕ} (z : ℤ) → T (ltb K (2 ^ hbits w)) → nat_abs z ≤ K → SFits w z
abs_fits {w} {K} z t h = record { sfits = lt_of_le_of_lt (le_trans (mag_le_abs z) h) (ltb→lt K (2 ^ hbits w) t) }

pub abs_lt_fits : {w : Width} (z : ℤ) → nat_abs z < 2 ^ hbits w → SFits w z
abs_lt_fits z h = record { sfits = lt_of_le_of_lt (mag_le_abs z) h }

pub abs_pos : (z : ℤ) → (z ≡ pos 0 → ⊥) → 0 < nat_abs z
abs_pos (pos zero) g = absurd (g refl)
abs_pos (pos (suc n)) g = omega arith
abs_pos (negsuc n) g = omega arith

-- a shift right of a number of size K, where K is below the width's half times the divisor
pub shr_abs_fits : {w : Width} {K : ℕ} (z : ℤ) (m : ℕ) → T (ltb 0 m) → T (ltb K (2 ^ hbits w * m)) → nat_abs z ≤ K → SFits w (shr_z z m)
shr_abs_fits {w} {K} z m p t h = record { sfits = go z (lt_of_le_of_lt (le_trans (mag_le_abs z) h) (ltb→lt K (2 ^ hbits w * m) t)) }
  where
    go : (y : ℤ) → mag y < 2 ^ hbits w * m → mag (shr_z y m) < 2 ^ hbits w
    go (pos a) l = (div-lt_iff_lt-mul (ltb→lt 0 m p)).1 l
    go (negsuc a) l = (div-lt_iff_lt-mul (ltb→lt 0 m p)).1 l

-- ---- a wider width, for any two: `widen w8 w32 tt f`, `add_fits w16 w32 tt f g`
pub widen : (w w' : Width) {z : ℤ} → T (leb (2 ^ hbits w) (2 ^ hbits w')) → SFits w z → SFits w' z
widen w w' t f = record { sfits = lt_of_lt_of_le f.sfits (leb→le (2 ^ hbits w) (2 ^ hbits w') t) }

pub add_fits : (w w' : Width) {a b : ℤ} → T (ltb (2 ^ hbits w + 2 ^ hbits w) (2 ^ hbits w')) → SFits w a → SFits w b → SFits w' (a +ℤ b)
add_fits w w' {a} {b} t f g = abs_fits (a +ℤ b) t (abs_add a b (fits_abs f) (fits_abs g))

pub sub_fits : (w w' : Width) {a b : ℤ} → T (ltb (2 ^ hbits w + 2 ^ hbits w) (2 ^ hbits w')) → SFits w a → SFits w b → SFits w' (a -ℤ b)
sub_fits w w' {a} {b} t f g = abs_fits (a -ℤ b) t (abs_sub a b (fits_abs f) (fits_abs g))

pub mul_fits : (w w' : Width) {a b : ℤ} → T (ltb (2 ^ hbits w * 2 ^ hbits w) (2 ^ hbits w')) → SFits w a → SFits w b → SFits w' (a *ℤ b)
mul_fits w w' {a} {b} t f g = abs_fits (a *ℤ b) t (abs_prod a b (fits_abs f) (fits_abs g))

-- the same at the widths in use, for `search`
pub widen_16_32 : {z : ℤ} → SFits w16 z → SFits w32 z
widen_16_32 f = widen w16 w32 tt f

pub widen_16_64 : {z : ℤ} → SFits w16 z → SFits w64 z
widen_16_64 f = widen w16 w64 tt f

pub widen_32_64 : {z : ℤ} → SFits w32 z → SFits w64 z
widen_32_64 f = widen w32 w64 tt f

pub add_32 : {a b : ℤ} → SFits w16 a → SFits w16 b → SFits w32 (a +ℤ b)
add_32 f g = add_fits w16 w32 tt f g

pub add_64 : {a b : ℤ} → SFits w32 a → SFits w32 b → SFits w64 (a +ℤ b)
add_64 f g = add_fits w32 w64 tt f g

pub sub_32 : {a b : ℤ} → SFits w16 a → SFits w16 b → SFits w32 (a -ℤ b)
sub_32 f g = sub_fits w16 w32 tt f g

pub sub_64 : {a b : ℤ} → SFits w32 a → SFits w32 b → SFits w64 (a -ℤ b)
sub_64 f g = sub_fits w32 w64 tt f g

pub mul_32 : {a b : ℤ} → SFits w16 a → SFits w16 b → SFits w32 (a *ℤ b)
mul_32 f g = mul_fits w16 w32 tt f g

pub mul_64 : {a b : ℤ} → SFits w32 a → SFits w32 b → SFits w64 (a *ℤ b)
mul_64 f g = mul_fits w32 w64 tt f g

-- a shift right of a number that fits
pub shr_fits : {w : Width} (z : ℤ) (m : ℕ) → SFits w z → SFits w (shr_z z m)
shr_fits z m f = sfits_le (mag_shr z m) f
