-- `cases_lags::all_contours` meets its contract.
use Rattle.std.proofs.Common.{arith}
use Rattle.silk_tables.specs.ContourLaws.{contours_le_34}
use Rattle.cases_lags.proofs.all_contours.Goals as goal

pub loop-contour-init : goal.loop-contour-init
loop-contour-init c = omega (arith, contours_le_34 c.args.s.fs_khz c.args.s.nb_subfr c.args.s.complexity)
