-- At most 34 contours are in use.
use Rattle.std.proofs.Common.{◌≤◌}
use Rattle.cases_lags.proofs.all_contours.Given as goal

abbrev pub invariant-loop-contour : goal.invariant-loop-contour
invariant-loop-contour l = l.contour-end ≤ 34
