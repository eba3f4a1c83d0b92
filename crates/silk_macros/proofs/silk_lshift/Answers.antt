-- `silk_macros::silk_lshift` meets its contract.
use Rattle.std.proofs.Common.{ℤ, ◌%◌, ap, ◌∙◌, w32}
use Rattle.std.specs.Int.{int_shl}
use Rattle.zint.specs.ReadLaws.{r_var, r_got}
use Rattle.zint.specs.WrapLaws.{shl_of_std}
use Rattle.silk_macros.proofs.silk_lshift.Goals as goal

pub returns : goal.returns
returns c =
    (r_got w32 c.wrapping_shl.type_inv (c.wrapping_shl.ensures ∙ ap (λ (x : ℤ). int_shl w32 x (c.args.shift % 32)) (r_var c.ranges.a).val ∙ shl_of_std w32 c.args.a (c.args.shift % 32) c.ranges.a)).val
