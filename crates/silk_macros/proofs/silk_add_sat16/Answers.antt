-- `silk_macros::silk_add_sat16` meets its contract.
use Rattle.std.proofs.Common.{w16, w32}
use Rattle.zint.specs.BoundLaws.{add_32}
use Rattle.zint.specs.Clamp.{sat}
use Rattle.zint.specs.ClampLaws.{sat_fits}
use Rattle.zint.specs.ReadLaws.{r_add, r_call1, r_cast, f_cast, r_got, wide_32}
use Rattle.silk_macros.proofs.silk_add_sat16.Goals as goal

pub overflow_cast-result : goal.overflow_cast-result
overflow_cast-result c = f_cast (r_got w32 c.silk_sat16.type_inv c.silk_sat16.ensures) (sat_fits w16 _)

pub returns : goal.returns
returns c =
    let f = c.ranges in
    let s = r_add (wide_32 f.a) (wide_32 f.b) (add_32 f.a f.b) in
    (r_cast (r_call1 w32 (sat w16) c.silk_sat16.type_inv s c.silk_sat16.ensures) (sat_fits w16 _)).val
