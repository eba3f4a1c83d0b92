-- Cases of the definition, by computation: a half input, refused settings, and the sheet of an input with no frame.
use Rattle.std.specs.Prelude.{◌≡◌, refl, [], ◌∷◌, map, replicate}
use Rattle.zint.specs.Wrap.{mod_z, wrap}
use Rattle.lists.specs.Fill.{tabulate}
use Rattle.pitch_settings.specs.Settings.{rate_known, subframes_known, settings_no, frame_length, hop_length}
use Rattle.speech_threshold.specs.Threshold.{in_range, threshold_no}
use Rattle.track_settings.specs.TrackSettings.{stored_settings, track_settings_no}
use Rattle.pitch_input.specs.Input.{input_settings, sample_at, samples_from}
use Rattle.recording_head.specs.declared.Head.TheVariants.{Plain, Options}
use Rattle.recording_head.specs.Head.{speech_in, second_in, options_settings, head_settings, head_known}
use Rattle.pitch_text.specs.Decimal.{digits_to, digits}
use Rattle.pitch_text.specs.Text.{refused_text}
use Rattle.track_paper.specs.Paper.{frame_count}
use Rattle.sheet_bytes.specs.Bytes.{low_bytes, number, number_at, word, signed, signed_at}
use Rattle.sheet_sections.specs.Sheet.{section_entries, setting_numbers, concat, section, sheet}
use Rattle.pitch_recording.specs.Recording.{samples_in, half_input, first_recording_refusal, recording_no}
use Rattle.track_sheet.specs.Accepted.{paper_rows, paper_sheet}
use Rattle.sheet_write_bytes.specs.Program.{sheet_written}

-- `refused 10`, `refused 1`, and 36 bytes for one sample: five settings, and nothing in the three other sections
pub sheet_written_cases :
    map (sheet_written Plain) ([] ∷ (9 ∷ 3 ∷ 3 ∷ replicate 8 0) ∷ (8 ∷ 2 ∷ 1 ∷ replicate 10 0) ∷ [])
    ≡ (114 ∷ 101 ∷ 102 ∷ 117 ∷ 115 ∷ 101 ∷ 100 ∷ 32 ∷ 49 ∷ 48 ∷ 10 ∷ [])
    ∷ (114 ∷ 101 ∷ 102 ∷ 117 ∷ 115 ∷ 101 ∷ 100 ∷ 32 ∷ 49 ∷ 10 ∷ [])
    ∷ (5 ∷ 0 ∷ 0 ∷ 0 ∷ 8 ∷ 0 ∷ 0 ∷ 0 ∷ 2 ∷ 0 ∷ 0 ∷ 0 ∷ 1 ∷ replicate 23 0)
    ∷ []
unfolding sheet_written paper_sheet stored_settings paper_rows sheet section section_entries setting_numbers concat low_bytes number number_at word signed signed_at mod_z wrap refused_text digits digits_to recording_no first_recording_refusal half_input head_settings head_known input_settings samples_in samples_from track_settings_no settings_no rate_known subframes_known frame_count frame_length hop_length tabulate
sheet_written_cases = refl

-- with options: `refused 9` for kind 2, `refused 11` for order 17, and for one sample and a threshold from the speech 36 bytes, with thres2 0
pub options_written_cases :
    map (sheet_written Options)
    ((8 ∷ 2 ∷ 1 ∷ 2 ∷ replicate 10 0) ∷ (8 ∷ 2 ∷ 1 ∷ 1 ∷ 0 ∷ 0 ∷ 0 ∷ 0 ∷ 17 ∷ replicate 5 0) ∷ (8 ∷ 2 ∷ 1 ∷ 1 ∷ 7 ∷ 0 ∷ 0 ∷ 0 ∷ 16 ∷ replicate 5 255) ∷ [])
    ≡ (114 ∷ 101 ∷ 102 ∷ 117 ∷ 115 ∷ 101 ∷ 100 ∷ 32 ∷ 57 ∷ 10 ∷ [])
    ∷ (114 ∷ 101 ∷ 102 ∷ 117 ∷ 115 ∷ 101 ∷ 100 ∷ 32 ∷ 49 ∷ 49 ∷ 10 ∷ [])
    ∷ (5 ∷ 0 ∷ 0 ∷ 0 ∷ 8 ∷ 0 ∷ 0 ∷ 0 ∷ 2 ∷ 0 ∷ 0 ∷ 0 ∷ 1 ∷ 0 ∷ 0 ∷ 0 ∷ 7 ∷ replicate 19 0)
    ∷ []
unfolding sheet_written paper_sheet stored_settings paper_rows sheet section section_entries setting_numbers concat low_bytes number number_at word signed signed_at mod_z wrap refused_text digits digits_to recording_no first_recording_refusal half_input head_settings options_settings second_in speech_in head_known sample_at samples_in samples_from track_settings_no threshold_no in_range settings_no rate_known subframes_known frame_count frame_length hop_length tabulate
options_written_cases = refl
