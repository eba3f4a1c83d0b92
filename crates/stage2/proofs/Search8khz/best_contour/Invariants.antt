-- The invariants of `best_contour`.
use Rattle.std.proofs.Common.{◌≤◌}
use Rattle.stage2.specs.Search.{at2}
use Rattle.stage2.specs.SearchLaws.{Leads}
use Rattle.stage2.proofs.Search8khz.best_contour.Given as goal

abbrev pub invariant-loop-i : goal.invariant-loop-i
invariant-loop-i l =
    (1 ≤ l.i) × ((l.i ≤ l.self.by.contours) × Leads (at2 l.self.c_8khz.now) l.self.by.nb l.d l.i l.cc0_max_new l.cb_i_max_new)
