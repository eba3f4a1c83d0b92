-- `silk_sigproc::bits_over` meets its contract.
use Rattle.silk_sigproc.specs.SumSqr.{excess}
use Rattle.silk_sigproc.proofs.bits_over.Goals as goal

pub returns : goal.returns
unfolding excess
returns c = c.saturating_sub.ensures
