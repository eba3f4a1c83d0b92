-- Worked cases, by computation: the frames in 319, 320, 479 and 480 samples at 8 kHz with nb 4.
use Rattle.std.specs.Prelude.{◌≡◌, refl, [], ◌∷◌, map, pos}
use Rattle.pitch_settings.specs.declared.Settings.{Settings}
use Rattle.pitch_settings.specs.Settings.{frame_length, hop_length}
use Rattle.track_paper.specs.Paper.{F, frame_count}

abbrev of_8khz : Settings
of_8khz = record { rate = 8; nb = 4; complexity = 0; thres1 = pos 0; thres2 = pos 0 }

pub frame_cases : map (F of_8khz) (319 ∷ 320 ∷ 479 ∷ 480 ∷ []) ≡ 0 ∷ 1 ∷ 1 ∷ 2 ∷ []
unfolding frame_count frame_length hop_length
frame_cases = refl
