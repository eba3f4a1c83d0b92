-- `Pair::of` meets its contract: settings that a sheet can hold have a complexity of at most 2.
use Rattle.std.proofs.Common.{arith}
use Rattle.pitch_settings.specs.SettingsLaws.{held_settings}
use Rattle.pitch_table.proofs.pair.Pair.of.Goals as goal

pub pair_carried-requires : goal.pair_carried-requires
pair_carried-requires c = omega (arith, (held_settings _ c.args.settings.held).complexity)
