-- The sizes of analysed settings meet what a framing asks.
use Rattle.std.proofs.Common.{arith}
use Rattle.pitch_settings.specs.SettingsLaws.{accepted_settings}
use Rattle.track_refusal.proofs.framing.FramingFromAnalysed.from.Goals as goal

pub invariant_of-result : goal.invariant_of-result
invariant_of-result c =
    let z = accepted_settings _ c.args.s.analysed in
    record { some = omega (arith, c.hop_length.ensures, z.some); within = omega (arith, c.hop_length.ensures, c.frame_length.ensures, z.within) }
