-- `silk_sigproc::square` meets its contract: the low 16 bits of a sample are the sample.
use Rattle.std.proofs.Common.{ap₂, ◌∙◌, ◌*ℤ◌, w16, w32}
use Rattle.zint.specs.WrapLaws.{wrap_id}
use Rattle.zint.specs.ReadLaws.{wide_32, r_call2}
use Rattle.silk_macros.specs.Macros.{smulbb}
use Rattle.silk_sigproc.proofs.square.Goals as goal

pub returns : goal.returns
unfolding smulbb
returns c =
    let f = c.ranges.x in
    (r_call2 w32 smulbb c.silk_smulbb.type_inv (wide_32 f) (wide_32 f) c.silk_smulbb.ensures).val
    ∙ ap₂ ◌*ℤ◌ (wrap_id w16 c.args.x f) (wrap_id w16 c.args.x f)
