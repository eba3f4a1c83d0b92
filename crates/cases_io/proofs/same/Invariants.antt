-- The first i agree.
use Rattle.std.proofs.Common.{◌≡◌, ◌≤◌, true, length}
use Rattle.cases_io.specs.Little.{numbers_at, agree}
use Rattle.cases_io.proofs.same.Given as goal

abbrev pub invariant-loop-i : goal.invariant-loop-i
invariant-loop-i g l = (l.i ≤ length l.xs) × (agree g.T.PartialEq.eq (numbers_at g.T.Little.value_at g.T.Little.SIZE l.bytes l.at) l.xs l.i ≡ true)
