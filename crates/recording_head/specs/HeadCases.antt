-- Cases of the definitions, by computation: a fixed threshold, one from the speech, and the kinds that are known.
use Rattle.std.specs.Prelude.{◌≡◌, refl, true, false, List, [], ◌∷◌, ◌++◌, map, ℕ, pos, replicate}
use Rattle.zint.specs.Minus.{minus}
use Rattle.zint.specs.Wrap.{mod_z, wrap}
use Rattle.sheet_bytes.specs.Bytes.{number, number_at, signed_at}
use Rattle.pitch_input.specs.Input.{sample_at}
use Rattle.track_settings.specs.declared.SecondThreshold.{SecondThreshold}
use Rattle.track_settings.specs.declared.SecondThreshold.TheVariants.{Fixed, FromSpeech}
use Rattle.track_settings.specs.declared.TrackSettings.{TrackSettings}
use Rattle.recording_head.specs.declared.Head.TheVariants.{Options}
use Rattle.recording_head.specs.Head.{speech_in, second_in, options_settings, head_settings, head_known}

abbrev at_8 : SecondThreshold → TrackSettings
at_8 t = record { rate = 8; nb = 2; complexity = 1; thres1 = pos 3; thres2 = t }

-- a head of 8 kHz, nb 2, complexity 1 and thres1 3, with this kind and these four bytes
abbrev head_8 : ℕ → List ℕ → List ℕ
head_8 kind t = (8 ∷ 2 ∷ 1 ∷ kind ∷ 3 ∷ replicate 3 0) ++ t

pub head_cases :
    map (head_settings Options) (head_8 0 (254 ∷ 255 ∷ 255 ∷ 255 ∷ []) ∷ head_8 1 (16 ∷ 255 ∷ 254 ∷ 255 ∷ []) ∷ [])
    ≡ at_8 (Fixed (minus 2)) ∷ at_8 (FromSpeech (record { order = pos 16; activity = pos 255; tilt = minus 2 })) ∷ []
unfolding head_settings options_settings second_in speech_in sample_at signed_at number_at number wrap mod_z
head_cases = refl

pub known_cases : map (λ (kind : ℕ). head_known Options (head_8 kind (replicate 4 0))) (0 ∷ 1 ∷ 2 ∷ 255 ∷ []) ≡ true ∷ true ∷ false ∷ false ∷ []
unfolding head_known
known_cases = refl
