-- `silk_sigproc::pair_energy` meets its contract: each square is a number from 0 to 2^30.
use Rattle.std.proofs.Common.{◌≡◌, refl, ap, ap₂, ◌∙◌, ◌+◌, ◌^◌, ◌<◌, arith, ℤ, pos, nat_abs, ◌*ℤ◌, w16, w32, SFits, to_z, of_z}
use Rattle.std.proofs.Math.Pow.{shr_le, split}
use Rattle.std.specs.Int.Signed.{mag}
use Rattle.zint.specs.ReadLaws.{r_var, r_call1, as_unsigned}
use Rattle.silk_sigproc.specs.SumSqr.{sq}
use Rattle.silk_sigproc.specs.SumSqrLaws.{sq_le, sq_pos}
use Rattle.silk_sigproc.proofs.pair_energy.Goals as goal

-- a call's result
squared : {a r : ℤ} → SFits w16 a → mag r < 2 ^ 31 → r ≡ to_z w16 (of_z w16 a) *ℤ to_z w16 (of_z w16 a) → to_z w32 (of_z w32 r) ≡ pos (sq a)
squared {a} f l e = (r_call1 w32 (λ (z : ℤ). z *ℤ z) l (r_var f) e).val ∙ sq_pos a

first : (c : goal.After-square) → to_z w32 (of_z w32 c.square.result) ≡ pos (sq c.args.a)
first c = squared c.ranges.a c.square.type_inv c.square.ensures

second : (c : goal.After-square-2) → to_z w32 (of_z w32 c.square-2.result) ≡ pos (sq c.args.b)
second c = squared c.ranges.b c.square-2.type_inv c.square-2.ensures

pub overflow_cast-result : goal.overflow_cast-result
overflow_cast-result c = as_unsigned w32 (sq c.args.a) (first c) (omega (arith, sq_le c.ranges.a))

pub overflow_cast-result-2 : goal.overflow_cast-result-2
overflow_cast-result-2 c = as_unsigned w32 (sq c.args.b) (second c) (omega (arith, sq_le c.ranges.b))

-- the sum of the squares
both : (c : goal.After-square-2) → nat_abs (to_z w32 (of_z w32 c.square.result)) + nat_abs (to_z w32 (of_z w32 c.square-2.result))
    ≡ sq c.args.a + sq c.args.b
both c = ap₂ ◌+◌ (ap nat_abs (first c.before)) (ap nat_abs (second c))

pub overflow_add-result : goal.overflow_add-result
overflow_add-result c = let f = c.ranges in omega (arith, both c, sq_le f.a, sq_le f.b)

pub overflow_cast-result-3 : goal.overflow_cast-result-3
overflow_cast-result-3 c =
    rw (both c) (omega (arith, shr_le (sq c.args.a + sq c.args.b) c.args.shift, sq_le c.ranges.a, sq_le c.ranges.b))

pub returns : goal.returns
returns c =
    rw (both c) (refl, omega (arith, split (sq c.args.a + sq c.args.b) c.args.shift, sq_le c.ranges.a, sq_le c.ranges.b))
