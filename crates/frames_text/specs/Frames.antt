-- The program `frames`: the line that it prints for one record, as a function of the record's bytes, and what its call leaves in each lent place. A record is rate, nb, complexity, a byte each; thres1, thres2, previous lag,
-- previous correlation, four signed bytes each; then a frame's N samples, two signed bytes each; all little-endian. Definitions only.
use Rattle.std.specs.Prelude.{cond, List, ℕ, ◌+◌, ◌*◌, ltb, eqb, ℤ, length}
use Rattle.lists.specs.Fill.{overwritten}
use Rattle.sheet_bytes.specs.Bytes.{signed_at}
use Rattle.refusals.specs.Refusals.{number_told}
use Rattle.pitch_settings.specs.declared.Settings.{Settings}
use Rattle.pitch_settings.specs.Settings.{settings_no, frame_length, longest_frame}
use Rattle.pitch_table.specs.declared.Row.{Row}
use Rattle.pitch_input.specs.Input.{head_size, input_settings, samples_from}
use Rattle.pitch_text.specs.Text.{row_text, refused_text}
use Rattle.silk_pitch_analysis.specs.Frame.{frame_row}
use Rattle.frames_text.specs.declared.Line.{Line}

-- the bytes before the samples: settings, previous lag and previous correlation
abbrev pub record_head : ℕ
record_head = head_size + 8

-- the bytes of the longest record
abbrev pub longest_record : ℕ
longest_record = record_head + 2 * longest_frame

-- the bytes of a record with these settings
unfoldable pub record_size : Settings → ℕ
record_size s = record_head + 2 * frame_length s

-- how many bytes the record has that begins with b: those of b alone where its head is not whole or its settings are refused
unfoldable pub record_length : List ℕ → ℕ
record_length b = cond (ltb (length b) record_head) (length b) (cond (eqb (settings_no (input_settings b)) 0) (record_size (input_settings b)) (length b))

-- the number of the refusal, or 0: 10 for a head that is cut, then the settings' number (1, 2, 3), then 10 for samples that are cut
unfoldable pub record_no : List ℕ → ℕ
record_no b =
    cond (ltb (length b) record_head) 10
    (cond (eqb (settings_no (input_settings b)) 0) (cond (ltb (length b) (record_size (input_settings b))) 10 0) (settings_no (input_settings b)))

-- the record's samples
unfoldable pub record_samples : List ℕ → List ℤ
record_samples b = samples_from b record_head (frame_length (input_settings b))

-- the row of the record's frame, with its previous lag and previous correlation
unfoldable pub record_row : List ℕ → Row
record_row b = frame_row (input_settings b) (record_samples b) (signed_at b head_size) (signed_at b (head_size + 4))

-- the record's line, or the refusal
unfoldable pub record_text : List ℕ → List ℕ
record_text b = cond (eqb (record_no b) 0) (row_text (input_settings b).nb (record_row b)) (refused_text (record_no b))

-- ---- the whole outcome of a call

-- the text's length with the refusal's number, and the lent lists at the end
pub record FramePrinted : Type 0 where
  pub len : ℕ
  pub number : ℕ
  pub out : List ℕ
  pub samples : List ℤ

abbrev pub frame_printed : Line → List ℕ → List ℤ → FramePrinted
frame_printed line out samples = record { len = line.len; number = number_told line.answer; out = out; samples = samples }

-- the lent samples after the record b: its samples over their front; a refusal leaves them
unfoldable pub frame_samples_after : List ℕ → List ℤ → List ℤ
frame_samples_after b samples = cond (eqb (record_no b) 0) (overwritten (record_samples b) samples) samples

-- what `frame_text` says and leaves of `out` and `samples` for the record b: the text over the front of `out`
unfoldable pub frame_text_call : List ℕ → List ℕ → List ℤ → FramePrinted
frame_text_call b out samples = record { len = length (record_text b); number = record_no b; out = overwritten (record_text b) out; samples = frame_samples_after b samples }
