-- Cases of the definitions, by computation: the refusals in their order, and inputs with no frame.
use Rattle.std.specs.Prelude.{◌≡◌, refl, [], ◌∷◌, map, replicate}
use Rattle.lists.specs.Fill.{tabulate}
use Rattle.zint.specs.Wrap.{mod_z, wrap}
use Rattle.sheet_bytes.specs.Bytes.{number, number_at}
use Rattle.pitch_settings.specs.Settings.{rate_known, subframes_known, settings_no, frame_length, hop_length}
use Rattle.speech_threshold.specs.Threshold.{in_range, threshold_no}
use Rattle.track_settings.specs.TrackSettings.{stored_settings, track_settings_no}
use Rattle.pitch_input.specs.Input.{input_settings, sample_at, samples_from}
use Rattle.track_paper.specs.Paper.{frame_count}
use Rattle.recording_head.specs.declared.Head.TheVariants.{Plain, Options}
use Rattle.recording_head.specs.Head.{speech_in, second_in, options_settings, head_settings, head_known}
use Rattle.pitch_recording.specs.Recording.{samples_in, half_input, first_recording_refusal, recording_no}

-- 10 comes before 1, and 1, 2, 3 one before the other; an input may have no frame
pub recording_cases :
    map (recording_no Plain)
    ([]
    ∷ (9 ∷ 3 ∷ 3 ∷ replicate 7 0)
    ∷ (9 ∷ 3 ∷ 3 ∷ replicate 9 0)
    ∷ (9 ∷ 3 ∷ 3 ∷ replicate 8 0)
    ∷ (8 ∷ 3 ∷ 3 ∷ replicate 8 0)
    ∷ (8 ∷ 2 ∷ 3 ∷ replicate 8 0)
    ∷ (8 ∷ 2 ∷ 2 ∷ replicate 8 0)
    ∷ [])
    ≡ 10 ∷ 10 ∷ 10 ∷ 1 ∷ 2 ∷ 3 ∷ 0 ∷ []
unfolding recording_no first_recording_refusal half_input head_settings head_known input_settings samples_in samples_from track_settings_no stored_settings settings_no rate_known subframes_known frame_count frame_length hop_length tabulate
recording_cases = refl

-- with options: a head of 11 bytes and an odd sample byte say 10, complexity 3 comes before order 17, which is looked at for kind 1 alone, and kind 2 is the last
pub options_cases :
    map (recording_no Options)
    ((8 ∷ 2 ∷ 2 ∷ replicate 8 0)
    ∷ (9 ∷ 3 ∷ 3 ∷ 1 ∷ 0 ∷ 0 ∷ 0 ∷ 0 ∷ 17 ∷ replicate 4 0)
    ∷ (8 ∷ 2 ∷ 3 ∷ 1 ∷ 0 ∷ 0 ∷ 0 ∷ 0 ∷ 17 ∷ replicate 3 0)
    ∷ (8 ∷ 2 ∷ 2 ∷ 1 ∷ 0 ∷ 0 ∷ 0 ∷ 0 ∷ 17 ∷ replicate 3 0)
    ∷ (8 ∷ 2 ∷ 2 ∷ 0 ∷ 0 ∷ 0 ∷ 0 ∷ 0 ∷ 17 ∷ replicate 3 0)
    ∷ (8 ∷ 2 ∷ 2 ∷ 2 ∷ 0 ∷ 0 ∷ 0 ∷ 0 ∷ 17 ∷ replicate 3 0)
    ∷ (8 ∷ 2 ∷ 2 ∷ 1 ∷ 0 ∷ 0 ∷ 0 ∷ 0 ∷ 16 ∷ replicate 3 255)
    ∷ [])
    ≡ 10 ∷ 10 ∷ 3 ∷ 11 ∷ 0 ∷ 9 ∷ 0 ∷ []
unfolding recording_no first_recording_refusal half_input head_settings options_settings second_in speech_in head_known sample_at number_at number wrap mod_z samples_in samples_from track_settings_no stored_settings threshold_no in_range settings_no rate_known subframes_known frame_count frame_length hop_length tabulate
options_cases = refl
