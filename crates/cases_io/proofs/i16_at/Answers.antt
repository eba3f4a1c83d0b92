-- `cases_io::i16_at` meets its contract.
use Rattle.std.proofs.Common.{pos, ap, arith, w16, w32}
use Rattle.zint.specs.ReadLaws.{r_nat, r_as, r_call1}
use Rattle.zint.specs.RuleLaws.{zneeds}
use Rattle.zint.specs.Wrap.{wrap}
use Rattle.cases_io.specs.Little.{i16_at}
use Rattle.cases_io.proofs.i16_at.Goals as goal

pub returns : goal.returns
unfolding i16_at
returns c = (r_call1 w16 (wrap w16) c.as_i16.type_inv (r_as (r_nat w32 c.u16_at.result (omega arith)) (ap pos c.u16_at.ensures)) c.as_i16.ensures).val

pub u16_at-requires : goal.u16_at-requires
u16_at-requires c = search zneeds

pub overflow_cast-u16_at : goal.overflow_cast-u16_at
overflow_cast-u16_at c = search zneeds

pub as_i16-requires : goal.as_i16-requires
as_i16-requires c = search zneeds
