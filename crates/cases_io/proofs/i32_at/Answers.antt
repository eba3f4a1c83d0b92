-- `cases_io::i32_at` meets its contract.
use Rattle.std.proofs.Common.{pos, ap, arith, w32, w64}
use Rattle.zint.specs.ReadLaws.{r_nat, r_as, r_call1}
use Rattle.zint.specs.RuleLaws.{zneeds}
use Rattle.zint.specs.Wrap.{wrap}
use Rattle.cases_io.specs.Little.{i32_at}
use Rattle.cases_io.proofs.i32_at.Goals as goal

pub returns : goal.returns
unfolding i32_at
returns c =
    (r_call1 w32 (wrap w32) c.low32.type_inv (r_as (r_nat w64 c.u32_at.result (omega arith)) (ap pos c.u32_at.ensures.0)) c.low32.ensures).val

pub u32_at-requires : goal.u32_at-requires
u32_at-requires c = search zneeds

pub overflow_cast-u32_at : goal.overflow_cast-u32_at
overflow_cast-u32_at c = search zneeds

pub low32-requires : goal.low32-requires
low32-requires c = search zneeds
