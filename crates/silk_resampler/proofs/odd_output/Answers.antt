-- `silk_resampler::odd_output` meets its contract.
use Rattle.std.proofs.Common.{w16}
use Rattle.zint.specs.ReadLaws.{r_got}
use Rattle.silk_resampler.specs.Down23.{odd_out}
use Rattle.silk_resampler.proofs.odd_output.Goals as goal

pub returns : goal.returns
unfolding odd_out
returns c = (r_got w16 c.weighted_output.type_inv c.weighted_output.ensures).val
