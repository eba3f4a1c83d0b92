-- `pitch_input::settings_in` meets its contract.
use Rattle.std.proofs.Common.{w32}
use Rattle.zint.specs.ReadLaws.{r_got}
use Rattle.pitch_input.specs.Input.{input_settings}
use Rattle.pitch_input.proofs.settings_in.Goals as goal

pub returns : goal.returns
unfolding input_settings
returns c = rw ((r_got w32 c.i32_at.type_inv c.i32_at.ensures).val, (r_got w32 c.i32_at-2.type_inv c.i32_at-2.ensures).val)
