-- `cases_sort::agrees` meets its contract: the tests make what the sort requires true, and the parts that are compared are within the arrays.
use Rattle.std.proofs.Common.{sym, arith, length-take-le}
use Rattle.cases_sort.proofs.agrees.Goals as goal

pub slice_bounds-same-end : goal.slice_bounds-same-end
slice_bounds-same-end c = sym (length-take-le _ _ (omega arith))

pub slice_bounds-same-end-then-same : goal.slice_bounds-same-end-then-same
slice_bounds-same-end-then-same c = sym (length-take-le _ _ (omega arith))
