-- `cases_io::load` meets its contract.
use Rattle.std.proofs.Common.{arith}
use Rattle.cases_io.specs.LittleLaws.{loaded_none, loaded_turn, loaded_all}
use Rattle.cases_io.proofs.load.Goals as goal

pub loop-i-init : goal.loop-i-init
loop-i-init g c = loaded_none _ _

pub loop-i-preserved : goal.loop-i-preserved
loop-i-preserved g c = loaded_turn c.loop-i.invariant c.nth.ensures (omega arith)

pub returns : goal.returns
returns g c = loaded_all c.loop-i.invariant (omega arith)
