-- Which quotients of two numbers of 32 bits fit 32 bits: all but that of the least number by -1.
use Rattle.std.specs.Prelude.{◌≡◌, refl, ℕ, zero, suc, ◌/◌, ◌^◌, ◌≤◌, ◌<◌, ℤ, pos, negsuc, neg_ℤ}
use Rattle.std.proofs.Common.{ap, div-le_self, div-lt_iff_lt-mul, arith, SFits}
use Rattle.std.proofs.Math.Decide.{dec_lt}
use Rattle.std.specs.Int.Signed.{quot_z}
use Rattle.std.specs.Int.{w32}

-- minus a number of size 2^31 at most
neg_fits : (k : ℕ) → k ≤ 2 ^ 31 → SFits w32 (neg_ℤ (pos k))
neg_fits zero h = record { sfits = omega arith }
neg_fits (suc k) h = record { sfits = omega arith }

pub quotient_fits : (a b : ℤ) → SFits w32 a → (b ≡ negsuc 0 → ⊥) → SFits w32 (quot_z a b)
quotient_fits (pos a) (pos b) f g = record { sfits = omega (arith, f.sfits, div-le_self a b) }
quotient_fits (pos a) (negsuc b) f g = neg_fits (a / suc b) (omega (arith, f.sfits, div-le_self a (suc b)))
quotient_fits (negsuc a) (pos b) f g = neg_fits (suc a / b) (omega (arith, f.sfits, div-le_self (suc a) b))
quotient_fits (negsuc a) (negsuc zero) f g = absurd (g refl)
quotient_fits (negsuc a) (negsuc (suc b)) f g = record { sfits = (div-lt_iff_lt-mul {k = suc (suc b)} {x = suc a} {y = 2 ^ 31} (omega arith)).1 (omega (arith, f.sfits)) }

pub negated_fits : (a : ℤ) → SFits w32 a → (a ≡ negsuc 2147483647 → ⊥) → SFits w32 (quot_z a (negsuc 0))
negated_fits (pos a) f g = neg_fits (a / 1) (omega (arith, f.sfits))
negated_fits (negsuc a) f g = go (dec_lt a 2147483647)
  where
    go : Dec (a < 2147483647) → SFits w32 (pos (suc a / 1))
    go (yes l) = record { sfits = omega arith }
    go (no m) = absurd (g (ap negsuc (omega (arith, f.sfits))))
