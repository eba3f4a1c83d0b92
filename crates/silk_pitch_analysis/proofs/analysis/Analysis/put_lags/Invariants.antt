-- The invariant of `Analysis::put_lags`: the lags of the subframes so far are written.
use Rattle.std.proofs.Common.{◌≡◌}
use Rattle.lists.specs.Fill.{filled}
use Rattle.silk_pitch_analysis.specs.Frame.{lag_of}
use Rattle.silk_pitch_analysis.proofs.analysis.Analysis.put_lags.Given as goal

abbrev pub invariant-loop-k : goal.invariant-loop-k
invariant-loop-k l = l.places ≡ filled (lag_of l.self.settings.settings l.self.verdict) l.k l.initial.places
