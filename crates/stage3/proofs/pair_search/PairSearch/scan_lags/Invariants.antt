-- What is known after the pairs of the lags below d.
use Rattle.std.proofs.Common.{◌-◌, ◌*◌}
use Rattle.silk_tables.specs.Tables.{in_use}
use Rattle.stage3.specs.Pick.{first_tried}
use Rattle.stage3.specs.Search.{array_choice, BestOfFirst}
use Rattle.stage3.proofs.pair_search.PairSearch.scan_lags.Given as goal

abbrev pub invariant-loop-d : goal.invariant-loop-d
invariant-loop-d l =
    BestOfFirst (array_choice l.cross_corr_st3 l.energies_st3 l.energy_target l.self) ((l.d - first_tried l.self.fs l.self.lag) * in_use l.self.codebook.nb l.self.codebook.complexity) l.best
