-- `stage3::target_energy` meets its contract.
use Rattle.std.proofs.Common.{◌∙◌, ℤ, ◌+ℤ◌, w32}
use Rattle.zint.specs.ReadLaws.{r_got, r_lit, r_call2}
use Rattle.zint.specs.Wrap.{wrap}
use Rattle.zint.specs.WrapLaws.{wraps}
use Rattle.stage3.specs.Stage3.{energy_target}
use Rattle.stage3.proofs.target_energy.Goals as goal

pub returns : goal.returns
unfolding energy_target
returns c =
    let f = c.energy_from in
    let v = r_got w32 f.type_inv f.ensures in
    (r_call2 w32 (λ (x y : ℤ). wrap w32 (x +ℤ y)) c.wrapping_add_i32.type_inv v (r_lit w32 1 tt) c.wrapping_add_i32.ensures).val ∙ simp wraps
