-- What was written so far: the lines of the kinds before this one.
use Rattle.std.specs.Io.KnownBytes.{Appends}
use Rattle.cases_io.specs.Lines.{kind_lines}
use Rattle.cases_io.proofs.report.Given as goal

abbrev pub invariant-loop-kind : goal.invariant-loop-kind
invariant-loop-kind g l = Appends (g.W.Write.contents l.initial.output) (g.W.Write.contents l.output) (kind_lines l.tallies l.kind-counter)
