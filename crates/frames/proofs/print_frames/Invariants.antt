-- At most 2 to the 40 records, and their lines are the front of the whole output.
use Rattle.std.proofs.Common.{◌-◌, ◌≤◌, IfSome}
use Rattle.recording_io.specs.ReadAnswer.{most_reads}
use Rattle.frames.specs.Output.{frames_output, FrontPrinted}
use Rattle.frames.proofs.print_frames.Given as goal

abbrev pub invariant-loop : goal.invariant-loop
invariant-loop g l = record {
  counted : l.counter ≤ most_reads;
  printed : IfSome (g.R.Read.remaining l.initial.input) (λ xs. FrontPrinted (most_reads - l.counter) (frames_output most_reads xs) (g.W.Write.contents l.initial.output) (g.W.Write.contents l.output) (g.R.Read.remaining l.input));
}
