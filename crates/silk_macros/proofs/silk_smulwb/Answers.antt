-- `silk_macros::silk_smulwb` meets its contract.
use Rattle.zint.specs.ReadLaws.{fit_as}
use Rattle.zint.specs.RuleLaws.{zneeds}
use Rattle.silk_macros.specs.Macros.{smulwb}
use Rattle.silk_macros.specs.MacroLaws.{smulwb_fits}
use Rattle.silk_macros.proofs.silk_smulwb.Goals as goal

pub overflow_cast-result-3 : goal.overflow_cast-result-3
unfolding smulwb
overflow_cast-result-3 c = fit_as (smulwb_fits c.args.b c.ranges.a) (search zneeds depth 10)

pub returns : goal.returns
unfolding smulwb
returns c = search (zneeds, smulwb_fits) depth 10 fits 10000
