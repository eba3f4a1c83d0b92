-- `recording_head::options_settings` meets its contract.
use Rattle.std.proofs.Common.{w32}
use Rattle.zint.specs.ReadLaws.{r_got}
use Rattle.recording_head.specs.Head.{options_settings}
use Rattle.recording_head.proofs.options_settings.Goals as goal

pub returns : goal.returns
unfolding options_settings
returns c = rw ((r_got w32 c.i32_at.type_inv c.i32_at.ensures).val, c.second_in.ensures)
