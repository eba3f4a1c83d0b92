-- `silk_macros::silk_smulbb` meets its contract.
use Rattle.zint.specs.ReadLaws.{fit_as}
use Rattle.silk_macros.specs.Macros.{smulbb}
use Rattle.silk_macros.specs.MacroLaws.{smulbb_fits}
use Rattle.zint.specs.RuleLaws.{zneeds}
use Rattle.silk_macros.proofs.silk_smulbb.Goals as goal

pub overflow_mul-result : goal.overflow_mul-result
unfolding smulbb
overflow_mul-result c = fit_as (smulbb_fits c.args.a c.args.b) (search zneeds depth 10)

pub returns : goal.returns
unfolding smulbb
returns c = search (zneeds, smulbb_fits) depth 10
