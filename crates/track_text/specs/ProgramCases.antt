-- Cases of the definitions, by computation: samples left, refusals, inputs with no frame, and what they leave of longer lists.
use Rattle.std.specs.Prelude.{◌≡◌, refl, List, [], ◌∷◌, ◌++◌, map, ℕ, pos, replicate}
use Rattle.zint.specs.Wrap.{mod_z, wrap}
use Rattle.lists.specs.Fill.{tabulate, overwritten}
use Rattle.sheet_bytes.specs.Bytes.{number, number_at}
use Rattle.pitch_settings.specs.declared.Settings.{Settings}
use Rattle.pitch_settings.specs.Settings.{rate_known, subframes_known, settings_no, frame_length, hop_length}
use Rattle.speech_threshold.specs.Threshold.{in_range, threshold_no}
use Rattle.track_settings.specs.TrackSettings.{stored_settings, track_settings_no}
use Rattle.pitch_input.specs.Input.{input_settings, sample_at, samples_from}
use Rattle.pitch_text.specs.Decimal.{digits_to, digits}
use Rattle.pitch_text.specs.Text.{lines_text, refused_text}
use Rattle.track_paper.specs.Paper.{frame_count, paper_numbers, paper_table}
use Rattle.recording_head.specs.declared.Head.TheVariants.{Plain, Options}
use Rattle.recording_head.specs.Head.{speech_in, second_in, options_settings, head_settings, head_known}
use Rattle.pitch_recording.specs.Recording.{samples_in, half_input, first_recording_refusal, recording_no, RecordingPrinted, recording_printed, samples_after, table_after, printed_for}
use Rattle.track_text.specs.Program.{samples_left, track_head, track_report, track_text, track_text_call}

abbrev with_thresholds_0 : ℕ → ℕ → ℕ → Settings
with_thresholds_0 rate nb complexity = record { rate = rate; nb = nb; complexity = complexity; thres1 = pos 0; thres2 = pos 0 }

-- 8 kHz, nb 2: frames of 240 samples, every 80
pub left_cases : map (samples_left (with_thresholds_0 8 2 0)) (0 ∷ 239 ∷ 240 ∷ 241 ∷ 319 ∷ 320 ∷ 399 ∷ []) ≡ 0 ∷ 239 ∷ 0 ∷ 1 ∷ 79 ∷ 0 ∷ 79 ∷ []
unfolding samples_left frame_count frame_length hop_length
left_cases = refl

-- `refused 10`, and `0 1` for one sample
pub track_text_cases :
    map (track_text Plain) ([] ∷ (8 ∷ 2 ∷ 0 ∷ replicate 10 0) ∷ [])
    ≡ (114 ∷ 101 ∷ 102 ∷ 117 ∷ 115 ∷ 101 ∷ 100 ∷ 32 ∷ 49 ∷ 48 ∷ 10 ∷ []) ∷ (48 ∷ 32 ∷ 49 ∷ 10 ∷ []) ∷ []
unfolding track_text track_report track_head lines_text samples_left refused_text digits digits_to recording_no first_recording_refusal half_input head_settings head_known input_settings samples_in samples_from track_settings_no stored_settings settings_no rate_known subframes_known frame_count frame_length hop_length tabulate
track_text_cases = refl

-- with options: `refused 9` for kind 2, `refused 11` for order 17, and `0 1` for one sample and a threshold from the speech
pub options_text_cases :
    map (track_text Options)
    ((8 ∷ 2 ∷ 0 ∷ 2 ∷ replicate 10 0) ∷ (8 ∷ 2 ∷ 0 ∷ 1 ∷ 0 ∷ 0 ∷ 0 ∷ 0 ∷ 17 ∷ replicate 5 0) ∷ (8 ∷ 2 ∷ 0 ∷ 1 ∷ 0 ∷ 0 ∷ 0 ∷ 0 ∷ 16 ∷ replicate 5 255) ∷ [])
    ≡ (114 ∷ 101 ∷ 102 ∷ 117 ∷ 115 ∷ 101 ∷ 100 ∷ 32 ∷ 57 ∷ 10 ∷ [])
    ∷ (114 ∷ 101 ∷ 102 ∷ 117 ∷ 115 ∷ 101 ∷ 100 ∷ 32 ∷ 49 ∷ 49 ∷ 10 ∷ [])
    ∷ (48 ∷ 32 ∷ 49 ∷ 10 ∷ [])
    ∷ []
unfolding track_text track_report track_head lines_text samples_left refused_text digits digits_to recording_no first_recording_refusal half_input head_settings options_settings second_in speech_in head_known sample_at number number_at mod_z wrap samples_in samples_from track_settings_no stored_settings threshold_no in_range settings_no rate_known subframes_known frame_count frame_length hop_length tabulate
options_text_cases = refl

-- no byte, and one sample of 5, over lists of sevens and two numbers each: the rest of each list stays, and by the refusal samples and table
abbrev left_of : List ℕ → RecordingPrinted
left_of b = track_text_call Plain b (replicate 13 7) (pos 1 ∷ pos 2 ∷ []) (pos 3 ∷ pos 4 ∷ [])

pub track_outcome_cases :
    map left_of ([] ∷ (8 ∷ 2 ∷ 0 ∷ (replicate 8 0 ++ (5 ∷ 0 ∷ []))) ∷ [])
    ≡ recording_printed 11 (114 ∷ 101 ∷ 102 ∷ 117 ∷ 115 ∷ 101 ∷ 100 ∷ 32 ∷ 49 ∷ 48 ∷ 10 ∷ 7 ∷ 7 ∷ []) (pos 1 ∷ pos 2 ∷ []) (pos 3 ∷ pos 4 ∷ [])
    ∷ recording_printed 4 (48 ∷ 32 ∷ 49 ∷ 10 ∷ replicate 9 7) (pos 5 ∷ pos 2 ∷ []) (pos 3 ∷ pos 4 ∷ [])
    ∷ []
unfolding track_text_call printed_for samples_after table_after overwritten paper_table paper_numbers track_text track_report track_head lines_text samples_left refused_text digits digits_to recording_no first_recording_refusal half_input head_settings head_known input_settings samples_in samples_from sample_at number number_at mod_z wrap track_settings_no stored_settings settings_no rate_known subframes_known frame_count frame_length hop_length tabulate
track_outcome_cases = refl
