-- `stage3::PairSearch::end_lag` meets its contract.
use Rattle.std.proofs.Common.{ap, ◌∙◌, ◌+◌, min}
use Rattle.stage3.specs.Pick.{last_tried}
use Rattle.stage3.proofs.pair_search.PairSearch.end_lag.Goals as goal

pub returns : goal.returns
unfolding last_tried
returns c = c.min.ensures ∙ ap (min (c.args.self.lag + 2)) c.greatest_lag.ensures
