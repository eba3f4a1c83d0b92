-- `cases_lags::all_indices` meets its contract.
use Rattle.std.proofs.Common.{arith}
use Rattle.silk_tables.specs.ContourLaws.{greatest_le}
use Rattle.cases_lags.proofs.all_indices.Goals as goal

pub overflow_add-index-end : goal.overflow_add-index-end
overflow_add-index-end c = omega (arith, greatest_le c.args.s.fs_khz)

pub loop-index-init : goal.loop-index-init
loop-index-init c = omega (arith, greatest_le c.args.s.fs_khz)
