-- Laws of the squares of samples: a square is not negative, and 32 bits hold the difference of two.
use Rattle.std.specs.Prelude.{◌≡◌, refl, ℕ, ℤ, pos, negsuc, nat_abs, ◌-ℤ◌, ◌*ℤ◌}
use Rattle.std.proofs.Common.{arith, SFits}
use Rattle.std.specs.Int.{w16, w32}
use Rattle.zint.specs.BoundLaws.{abs_ud, abs_prod, fits_abs}
use Rattle.zint.specs.DiffLaws.{up, dn, v, ◌⊖◌, sfits_by}

square_dn : (x : ℤ) → dn (x *ℤ x) ≡ 0
square_dn (pos a) = refl
square_dn (negsuc a) = refl

square_nat : (x : ℤ) → (nat_abs (x *ℤ x) ≡ up (x *ℤ x)) × (dn (x *ℤ x) ≡ 0)
square_nat x = (omega (arith, abs_ud (x *ℤ x), square_dn x), square_dn x)

-- the difference of two squares of 16-bit numbers
pub squares_differ : {x y : ℤ} → SFits w16 x → SFits w16 y → SFits w32 (x *ℤ x -ℤ y *ℤ y)
squares_differ {x} {y} f g =
    let px = square_nat x in
    let py = square_nat y in
    sfits_by w32 (v (x *ℤ x) ⊖ v (y *ℤ y)) (omega (arith, px, py, abs_prod x x (fits_abs f) (fits_abs f))) (omega (arith, px, py, abs_prod y y (fits_abs g) (fits_abs g)))
