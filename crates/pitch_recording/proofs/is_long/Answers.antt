-- `pitch_recording::is_long` meets its contract.
use Rattle.std.proofs.Common.{ℕ, ◌+◌, ◌*◌, ◌∙◌, arith, leb, ap₂}
use Rattle.pitch_settings.specs.SettingsLaws.{accepted_settings}
use Rattle.pitch_recording.specs.Recording.{program_frames}
use Rattle.pitch_recording.specs.RecordingLaws.{hop_small, long_is}
use Rattle.pitch_recording.proofs.is_long.Goals as goal

pub overflow_mul-result : goal.overflow_mul-result
overflow_mul-result c = omega (arith, c.hop_length.ensures, hop_small _ c.args.s.analysed)

pub overflow_add-result : goal.overflow_add-result
overflow_add-result c =
    omega (arith, c.hop_length.ensures, c.frame_length.ensures, hop_small _ c.args.s.analysed, (accepted_settings _ c.args.s.analysed).small)

pub returns : goal.returns
returns c =
    ap₂ (λ (h l : ℕ). leb (program_frames * h + l) c.args.n) c.hop_length.ensures c.frame_length.ensures
    ∙ long_is c.args.s.settings c.args.s.analysed c.args.n
