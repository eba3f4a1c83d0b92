-- `cases_track::text::agrees` meets its contract: a text past its room or the body does not agree, and else the comparison tells.
use Rattle.std.proofs.Common.{arith, rules}
use Rattle.cases_track.specs.TextLaws.{agrees_at}
use Rattle.cases_track.proofs.text.agrees.Goals as goal

pub returns : goal.returns
returns c = agrees_at _ _ _ _ _ _ _ c.u32_at-told.ensures.0 c.u32_at-zeros.ensures.0 (omega arith) (omega arith) (search rules) c.is_told.ensures
