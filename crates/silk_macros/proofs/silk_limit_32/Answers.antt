-- `silk_macros::silk_limit_32` meets its contract.
use Rattle.zint.specs.RuleLaws.{zneeds}
use Rattle.silk_macros.specs.Macros.{limit_32}
use Rattle.silk_macros.proofs.silk_limit_32.Goals as goal

pub returns-then-a-low : goal.returns-then-a-low
unfolding limit_32
returns-then-a-low c = search zneeds depth 8

pub returns-then-a-high : goal.returns-then-a-high
unfolding limit_32
returns-then-a-high c = search zneeds depth 8

pub returns-else-a-high : goal.returns-else-a-high
unfolding limit_32
returns-else-a-high c = search zneeds depth 8
