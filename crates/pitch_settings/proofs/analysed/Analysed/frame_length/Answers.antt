-- `Analysed::frame_length` meets its contract: with settings that are analysed nothing wraps.
use Rattle.std.proofs.Common.{arith, refl}
use Rattle.pitch_settings.specs.Settings.{frame_length}
use Rattle.pitch_settings.specs.SettingsLaws.{accepted_settings}
use Rattle.pitch_settings.proofs.analysed.Analysed.frame_length.Goals as goal

pub overflow_mul-result : goal.overflow_mul-result
overflow_mul-result c = omega (arith, accepted_settings _ c.args.self.analysed)

pub overflow_add-result : goal.overflow_add-result
overflow_add-result c = omega (arith, accepted_settings _ c.args.self.analysed)

pub overflow_mul-result-2 : goal.overflow_mul-result-2
unfolding frame_length
overflow_mul-result-2 c = omega (arith, (accepted_settings _ c.args.self.analysed).small)

pub returns : goal.returns
unfolding frame_length
returns c = refl
