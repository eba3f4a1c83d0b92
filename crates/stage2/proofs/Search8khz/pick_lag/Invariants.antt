-- The invariants of `pick_lag`.
use Rattle.std.proofs.Common.{◌-◌, ◌≤◌}
use Rattle.stage2.specs.Search.{search_in}
use Rattle.stage2.specs.SearchLaws.{AfterLags}
use Rattle.stage2.proofs.Search8khz.pick_lag.Given as goal

abbrev pub invariant-loop-d : goal.invariant-loop-d
invariant-loop-d l = (16 ≤ l.d) × ((l.d ≤ 144) × AfterLags (search_in l.self.c_8khz.now l.self.kept.lags.now l.self.by) (l.d - 16) l.best)
