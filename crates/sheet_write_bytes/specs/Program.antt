-- The programs `sheet_write` and `sheet_write_options`: the bytes that they write, as a function of all bytes of their input, which is what `track` or `track_options` takes (docs/SCOPE.md, Programs), and what its call leaves in each lent place. Definitions only.
use Rattle.std.specs.Prelude.{cond, List, ℕ, eqb, ℤ}
use Rattle.recording_head.specs.declared.Head.{Head}
use Rattle.recording_head.specs.Head.{head_settings}
use Rattle.pitch_text.specs.Text.{refused_text}
use Rattle.pitch_recording.specs.Recording.{program_frames, samples_in, recording_no, RecordingPrinted, printed_for}
use Rattle.sheet_sections.specs.Sheet.{sheet_length}
use Rattle.track_sheet.specs.Accepted.{paper_sheet}

-- the longest sheet: that of as many voiced frames as a program takes
abbrev pub longest_program_sheet : ℕ
longest_program_sheet = sheet_length program_frames program_frames

-- the sheet of the samples' track on paper; or `refused` and the number, where the input is refused. Writing accepts every track, so a 9 is the head's
unfoldable pub sheet_written : Head → List ℕ → List ℕ
sheet_written head b = cond (eqb (recording_no head b) 0) (paper_sheet (head_settings head b) (samples_in head b)) (refused_text (recording_no head b))

-- what `sheet_write_bytes` leaves of `out`, `samples` and `table` for the input b with this head: these bytes over the front of `out`, the others as `track_text` leaves them
unfoldable pub sheet_bytes_call : Head → List ℕ → List ℕ → List ℤ → List ℤ → RecordingPrinted
sheet_bytes_call head b = printed_for head b (sheet_written head b)
