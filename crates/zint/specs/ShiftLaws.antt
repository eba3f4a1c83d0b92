-- A shift by a signed amount: the amount's bits are its size where it is not negative.
use Rattle.std.specs.Prelude.{◌≡◌, refl, ℕ, ◌-◌, ◌*◌, ◌^◌, ◌≤◌, ◌<◌, ℤ, pos, negsuc, nat_abs, ◌-ℤ◌, ◌≤ℤ◌, ◌<ℤ◌}
use Rattle.std.proofs.Common.{sym, ap, ◌∙◌, lt_of_lt_of_le, div-lt_iff_lt-mul, mul-le-mul_left, pow_pos, pow_mono, SFits, to_z, of_z}
use Rattle.std.specs.Int.Signed.{mag, shr_z, pos-nat_abs, yes_non_neg}
use Rattle.std.specs.Int.{Width, w32, w64}
use Rattle.std.proofs.lemmas.Int.{to_z-of_z}
use Rattle.zint.specs.DiffLaws.{eq_of, sub_ud', positive_dn, negative_up, zarith}
use Rattle.zint.specs.BoundLaws.{abs_ud}

pub amount : (w : Width) (s : ℤ) → pos 0 ≤ℤ s → of_z w s ≡ nat_abs s
amount w (pos n) h = refl
amount w (negsuc n) h = absurd h.le

-- an amount that is widened
pub wide_amount : (s : ℤ) → SFits w32 s → pos 0 ≤ℤ s → of_z w64 (to_z w32 (of_z w32 s)) ≡ nat_abs s
wide_amount s f h = ap (of_z w64) (to_z-of_z w32 s f) ∙ amount w64 s h

-- the size of a number that is not negative, and of one that is
pub nonneg_abs : (z : ℤ) → pos 0 ≤ℤ z → z ≡ pos (nat_abs z)
nonneg_abs z h = sym (pos-nat_abs z (yes_non_neg h))

pub neg_abs : (z : ℤ) → z <ℤ pos 0 → pos 0 -ℤ z ≡ pos (nat_abs z)
neg_abs z h = eq_of (pos 0 -ℤ z) (pos (nat_abs z)) (omega (zarith, negative_up h, sub_ud' (pos 0) z, abs_ud z))

-- one less
pub pred_abs : (s : ℤ) → pos 0 <ℤ s → s -ℤ pos 1 ≡ pos (nat_abs s - 1)
pred_abs s h = eq_of (s -ℤ pos 1) (pos (nat_abs s - 1)) (omega (zarith, positive_dn h, sub_ud' s (pos 1), abs_ud s))

-- s digits fewer
pub shr_lt : (z : ℤ) (h s k : ℕ) → mag z < 2 ^ h * 2 ^ k → k ≤ s → mag (shr_z z (2 ^ s)) < 2 ^ h
shr_lt (pos a) h s k l e = (div-lt_iff_lt-mul (pow_pos s)).1 (lt_of_lt_of_le l (mul-le-mul_left (2 ^ h) (pow_mono e)))
shr_lt (negsuc a) h s k l e = (div-lt_iff_lt-mul (pow_pos s)).1 (lt_of_lt_of_le l (mul-le-mul_left (2 ^ h) (pow_mono e)))
