-- The invariants of `silk_pitch_xcorr`.
use Rattle.std.proofs.Common.{◌≡◌}
use Rattle.lists.specs.Fill.{filled}
use Rattle.silk_sigproc.specs.DotLaws.{lag_dot}
use Rattle.silk_sigproc.proofs.silk_pitch_xcorr.Given as goal

abbrev pub invariant-loop-i : goal.invariant-loop-i
invariant-loop-i l = l.xcorr ≡ filled (lag_dot l.x l.y l.len) l.i l.fn.xcorr
