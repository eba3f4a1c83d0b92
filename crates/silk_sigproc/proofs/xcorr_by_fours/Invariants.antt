-- The invariants of `xcorr_by_fours`.
use Rattle.std.proofs.Common.{◌≡◌, ◌*◌}
use Rattle.lists.specs.Fill.{filled}
use Rattle.silk_sigproc.specs.DotLaws.{lag_dot}
use Rattle.silk_sigproc.proofs.xcorr_by_fours.Given as goal

abbrev pub invariant-loop-k : goal.invariant-loop-k
invariant-loop-k l = l.xcorr ≡ filled (lag_dot l.x l.y l.len) (4 * l.k) l.initial.xcorr
