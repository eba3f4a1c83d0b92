-- `silk_sigproc::slide` meets its contract.
use Rattle.std.proofs.Common.{◌∙◌, ℤ, ◌+ℤ◌, ◌-ℤ◌, ◌*ℤ◌, w32}
use Rattle.zint.specs.Wrap.{wrap}
use Rattle.zint.specs.WrapLaws.{wraps}
use Rattle.zint.specs.ReadLaws.{r_var, r_call1, r_call2}
use Rattle.silk_sigproc.proofs.slide.Goals as goal

pub returns : goal.returns
returns c =
    let f = c.ranges in
    let g = r_call1 w32 (λ (x : ℤ). x *ℤ x) c.square.type_inv (r_var f.gone) c.square.ensures in
    let d = r_call2 w32 (λ (x y : ℤ). wrap w32 (x -ℤ y)) c.wrapping_sub_i32.type_inv (r_var f.energy) g c.wrapping_sub_i32.ensures in
    let k = r_call1 w32 (λ (x : ℤ). x *ℤ x) c.square-2.type_inv (r_var f.come) c.square-2.ensures in
    (r_call2 w32 (λ (x y : ℤ). wrap w32 (x +ℤ y)) c.wrapping_add_i32.type_inv d k c.wrapping_add_i32.ensures).val ∙ simp wraps
