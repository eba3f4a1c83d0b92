-- What was loaded so far.
use Rattle.cases_io.specs.Little.{numbers_at}
use Rattle.cases_io.specs.LittleLaws.{Loaded}
use Rattle.cases_io.proofs.load.Given as goal

abbrev pub invariant-loop-i : goal.invariant-loop-i
invariant-loop-i g l = Loaded (numbers_at g.T.Little.value_at g.T.Little.SIZE l.bytes l.at) l.initial.out l.i l.out
