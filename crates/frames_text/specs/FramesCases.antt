-- Cases of the definitions, by computation: the refusals of a record, in their order.
use Rattle.std.specs.Prelude.{◌≡◌, refl, [], ◌∷◌, map, replicate}
use Rattle.pitch_settings.specs.Settings.{rate_known, subframes_known, settings_no, frame_length}
use Rattle.pitch_input.specs.Input.{input_settings}
use Rattle.frames_text.specs.Frames.{record_size, record_no}

-- a cut head, refused settings, cut samples, and a whole record of 240 samples
pub record_cases :
    map record_no
    ((9 ∷ replicate 17 0)
    ∷ (9 ∷ 3 ∷ 3 ∷ replicate 16 0)
    ∷ (8 ∷ 3 ∷ 3 ∷ replicate 16 0)
    ∷ (8 ∷ 2 ∷ 3 ∷ replicate 16 0)
    ∷ (8 ∷ 2 ∷ 0 ∷ replicate 495 0)
    ∷ (8 ∷ 2 ∷ 0 ∷ replicate 496 0)
    ∷ [])
    ≡ 10 ∷ 1 ∷ 2 ∷ 3 ∷ 10 ∷ 0 ∷ []
unfolding record_no record_size input_settings settings_no rate_known subframes_known frame_length
record_cases = refl
