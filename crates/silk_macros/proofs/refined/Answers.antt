-- `silk_macros::refined` meets its contract.
use Rattle.std.proofs.Common.{w32, ℤ, ◌-ℤ◌}
use Rattle.silk_macros.specs.Macros.{smulwb, smmul, smlawb}
use Rattle.silk_macros.specs.Divide.{refine}
use Rattle.zint.specs.ReadLaws.{r_var, r_call2, r_call3, r_shl}
use Rattle.zint.specs.Wrap.{wrap}
use Rattle.silk_macros.proofs.refined.Goals as goal

pub returns : goal.returns
unfolding refine
returns c =
    let f = c.ranges in
    let k = c.silk_smulwb-r0 in
    let m = c.silk_smmul in
    let d = c.wrapping_sub_i32-an2 in
    let r = r_call2 w32 smulwb k.type_inv (r_var f.an) (r_var f.inv) k.ensures in
    let p = r_call2 w32 smmul m.type_inv (r_var f.bn) r m.ensures in
    let e = r_call2 w32 (λ (x y : ℤ). wrap w32 (x -ℤ y)) d.type_inv (r_var f.an) (r_shl 8 p) d.ensures in
    (r_call3 w32 smlawb c.silk_smlawb.type_inv r e (r_var f.inv) c.silk_smlawb.ensures).val
