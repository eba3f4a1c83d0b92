-- `silk_macros::silk_lshift_sat32` meets its contract: the amount, widened, is its size.
use Rattle.std.proofs.Common.{◌≡◌, ap, ℕ, ◌^◌, pos, nat_abs, ◌*ℤ◌, w32, w64, to_z, of_z}
use Rattle.zint.specs.BoundLaws.{abs_ud}
use Rattle.zint.specs.Clamp.{sat}
use Rattle.zint.specs.DiffLaws.{nonneg_dn, zarith}
use Rattle.zint.specs.ReadLaws.{wide_64, r_shl, r_as, r_call1}
use Rattle.zint.specs.ShiftLaws.{wide_amount}
use Rattle.zint.specs.Wrap.{wrap}
use Rattle.silk_macros.specs.Macros.{lshift_sat32}
use Rattle.silk_macros.proofs.silk_lshift_sat32.Goals as goal

amount-is : (c : goal.Start) → of_z w64 (to_z w32 (of_z w32 c.args.shift)) ≡ nat_abs c.args.shift
amount-is c = wide_amount c.args.shift c.ranges.shift c.requires.0

pub overflow_shl-a : goal.overflow_shl-a
overflow_shl-a c = omega (zarith, amount-is c, abs_ud c.args.shift, nonneg_dn c.requires.0)

pub returns : goal.returns
unfolding lshift_sat32
returns c =
    let a = c.args.a in
    let p = r_as (r_shl _ (wide_64 c.ranges.a)) (ap (λ (k : ℕ). wrap w64 (a *ℤ pos (2 ^ k))) (amount-is c.before)) in
    (r_call1 w32 (sat w32) c.sat32.type_inv p c.sat32.ensures).val
