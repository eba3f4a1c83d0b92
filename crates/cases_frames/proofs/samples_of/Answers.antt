-- `cases_frames::samples_of` meets its contract: settings that are analysed have at most 640 samples.
use Rattle.std.proofs.Common.{arith}
use Rattle.pitch_settings.specs.SettingsLaws.{accepted_settings}
use Rattle.cases_frames.proofs.samples_of.Goals as goal

pub returns-in-Ok : goal.returns-in-Ok
returns-in-Ok c = omega (arith, (accepted_settings c.in-Ok.analysed.settings c.in-Ok.analysed.analysed).small)
