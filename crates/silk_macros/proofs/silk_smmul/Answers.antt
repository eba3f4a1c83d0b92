-- `silk_macros::silk_smmul` meets its contract.
use Rattle.zint.specs.ReadLaws.{fit_as}
use Rattle.zint.specs.RuleLaws.{zneeds}
use Rattle.silk_macros.specs.Macros.{smmul}
use Rattle.silk_macros.specs.MacroLaws.{smmul_fits}
use Rattle.silk_macros.proofs.silk_smmul.Goals as goal

pub overflow_cast-result-3 : goal.overflow_cast-result-3
unfolding smmul
overflow_cast-result-3 c = fit_as (smmul_fits c.ranges.a c.ranges.b) (search zneeds)

pub returns : goal.returns
unfolding smmul
returns c = search (zneeds, smmul_fits)
