-- `stage3::PairSearch::start_lag` meets its contract.
use Rattle.std.proofs.Common.{ap, ◌∙◌, ◌-◌, max}
use Rattle.stage3.specs.Pick.{first_tried}
use Rattle.stage3.proofs.pair_search.PairSearch.start_lag.Goals as goal

pub returns : goal.returns
unfolding first_tried
returns c = c.max.ensures ∙ ap (max (c.args.self.lag - 2)) c.least_lag.ensures
