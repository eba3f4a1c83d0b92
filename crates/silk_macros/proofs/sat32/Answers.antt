-- `silk_macros::sat32` meets its contract: std's `clamp`, in the words of `sat`.
use Rattle.std.proofs.Common.{ℤ, pos, negsuc, ap, ◌∙◌, w32, w64}
use Rattle.std.specs.Int.{int_min, int_max}
use Rattle.zint.specs.Clamp.{sat}
use Rattle.zint.specs.ClampLaws.{clamp_of_std, sat_fits}
use Rattle.zint.specs.ReadLaws.{r_var, r_got, r_cast}
use Rattle.silk_macros.proofs.sat32.Goals as goal

pub returns : goal.returns
unfolding sat
returns c =
    let e = c.clamp.ensures.value ∙ ap (λ (y : ℤ). int_max (negsuc 2147483647) (int_min y (pos 2147483647))) (r_var c.ranges.x).val ∙ clamp_of_std (negsuc 2147483647) (pos 2147483647) c.args.x (record { le = tt }) in
    (r_cast (r_got w64 c.clamp.type_inv e) (sat_fits w32 c.args.x)).val
