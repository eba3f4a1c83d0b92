-- At most 65,536 bytes a read and at least one, and they are what the reader lost.
use Rattle.std.proofs.Common.{◌*◌, ◌≤◌}
use Rattle.recording_io.specs.FilledLaws.{Lost}
use Rattle.recording_io.proofs.count_rest.Given as goal

abbrev pub invariant-loop : goal.invariant-loop
invariant-loop g l = record {
  few : l.total ≤ 65536 * l.counter;
  each : l.counter ≤ l.total;
  bytes : Lost (g.R.Read.remaining l.initial.input) (g.R.Read.remaining l.input) l.total;
}
