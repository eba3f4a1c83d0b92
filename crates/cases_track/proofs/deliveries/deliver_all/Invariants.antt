-- What was delivered is within the samples.
use Rattle.std.proofs.Common.{◌≤◌, length}
use Rattle.cases_track.proofs.deliveries.deliver_all.Given as goal

abbrev pub invariant-loop-i : goal.invariant-loop-i
invariant-loop-i l = l.at ≤ length l.samples
