-- `stage3_arrays::slide` meets its contract.
use Rattle.std.proofs.Common.{ℤ, ◌+ℤ◌, ◌-ℤ◌, ◌*ℤ◌, w32}
use Rattle.zint.specs.ReadLaws.{r_var, r_call1, r_call2}
use Rattle.zint.specs.Wrap.{wrap}
use Rattle.stage3_arrays.specs.Arrays.{step}
use Rattle.zint.specs.Clamp.{sat}
use Rattle.stage3_arrays.proofs.slide.Goals as goal

pub returns : goal.returns
unfolding step
returns c =
    let f = c.ranges in
    let g = r_call1 w32 (λ (x : ℤ). x *ℤ x) c.square.type_inv (r_var f.gone) c.square.ensures in
    let d = r_call2 w32 (λ (x y : ℤ). wrap w32 (x -ℤ y)) c.wrapping_sub_i32.type_inv (r_var f.energy) g c.wrapping_sub_i32.ensures in
    let k = r_call1 w32 (λ (x : ℤ). x *ℤ x) c.square-2.type_inv (r_var f.come) c.square-2.ensures in
    (r_call2 w32 (λ (x y : ℤ). sat w32 (x +ℤ y)) c.silk_add_sat32.type_inv d k c.silk_add_sat32.ensures).val
