-- `silk_tables::greatest_lag` meets its contract.
use Rattle.std.proofs.Common.{sym}
use Rattle.silk_tables.specs.ContourLaws.{greatest_lag_8, greatest_lag_other}
use Rattle.silk_tables.proofs.greatest_lag.Goals as goal

pub returns-then-fs_khz-eq8 : goal.returns-then-fs_khz-eq8
returns-then-fs_khz-eq8 c = sym (greatest_lag_8 c.args.fs_khz c.if-fs_khz-eq8.true)

pub returns-else-fs_khz-eq8 : goal.returns-else-fs_khz-eq8
returns-else-fs_khz-eq8 c = sym (greatest_lag_other c.args.fs_khz c.if-fs_khz-eq8.false)
