-- What the rest of the list leads to, from the tally so far, all of it leads to; and the rest gets shorter.
use Rattle.std.proofs.Common.{length}
use Rattle.std.specs.Fn.{FnReturnsAt}
use Rattle.cases_io.specs.declared.Tally.{Tally}
use Rattle.cases_io.specs.Counts.{tally}
use Rattle.cases_io.specs.Replay.{Replayed}
use Rattle.cases_io.proofs.replay.Given as goal

abbrev pub invariant-loop-rest : goal.invariant-loop-rest
invariant-loop-rest g l =
    (u : Tally) → Replayed (FnReturnsAt g.S.Fn l.size) (FnReturnsAt g.A.Fn l.agrees) l.tally l.rest u
    → Replayed (FnReturnsAt g.S.Fn l.fn.size) (FnReturnsAt g.A.Fn l.fn.agrees) (tally 0 0) l.fn.list u

abbrev pub decreases-loop-rest : goal.decreases-loop-rest
decreases-loop-rest g l = length l.rest
