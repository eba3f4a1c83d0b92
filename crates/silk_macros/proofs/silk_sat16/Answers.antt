-- `silk_macros::silk_sat16` meets its contract: std's `clamp`, in the words of `sat`.
use Rattle.std.proofs.Common.{ℤ, pos, negsuc, ap, ◌∙◌, w32}
use Rattle.std.specs.Int.{int_min, int_max}
use Rattle.zint.specs.Clamp.{sat}
use Rattle.zint.specs.ClampLaws.{clamp_of_std}
use Rattle.zint.specs.ReadLaws.{r_var, r_got}
use Rattle.silk_macros.proofs.silk_sat16.Goals as goal

pub returns : goal.returns
unfolding sat
returns c =
    let e = c.clamp.ensures.value ∙ ap (λ (y : ℤ). int_max (negsuc 32767) (int_min y (pos 32767))) (r_var c.ranges.a).val ∙ clamp_of_std (negsuc 32767) (pos 32767) c.args.a (record { le = tt }) in
    (r_got w32 c.clamp.type_inv e).val
