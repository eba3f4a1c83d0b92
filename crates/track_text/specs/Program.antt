-- The programs `track` and `track_options` (docs/SCOPE.md, Programs): the text that they print, as a function of all bytes of their input, and what its call leaves in each lent place. Definitions only.
use Rattle.std.specs.Prelude.{cond, ◌≡◌, List, [], ◌∷◌, ◌++◌, ℕ, ◌+◌, ◌-◌, ◌*◌, eqb, ℤ, length}
use Rattle.pitch_recording.specs.Recording.{program_frames, samples_in, recording_no, RecordingPrinted, printed_for}
use Rattle.pitch_settings.specs.declared.Settings.{Settings}
use Rattle.pitch_settings.specs.Settings.{frame_length, hop_length}
use Rattle.pitch_text.specs.Decimal.{digits}
use Rattle.pitch_text.specs.Text.{digits_bytes, line_bytes, lines_text, refused_text}
use Rattle.track_settings.specs.declared.TrackSettings.{TrackSettings}
use Rattle.track_settings.specs.TrackSettings.{stored_settings}
use Rattle.recording_head.specs.declared.Head.{Head}
use Rattle.recording_head.specs.Head.{head_settings}
use Rattle.track_paper.specs.Paper.{F, paper_row, no_previous, paper_table}

-- the longest first line: two numbers, a space between them and the line's end
abbrev pub longest_head : ℕ
longest_head = digits_bytes + 1 + digits_bytes + 1

-- the longest text: that line, and a line for each frame that a program takes
abbrev pub longest_text : ℕ
longest_text = longest_head + line_bytes * program_frames

-- of n samples, those after the last frame's end; all of them where there is no frame
unfoldable pub samples_left : Settings → ℕ → ℕ
samples_left s n = cond (eqb (F s n) 0) n (n - ((F s n - 1) * hop_length s + frame_length s))

-- frame count and samples left
unfoldable pub track_head : ℕ → ℕ → List ℕ
track_head frames left = digits frames ++ (32 ∷ (digits left ++ (10 ∷ [])))

-- the head, then a line for each frame
unfoldable pub track_report : TrackSettings → List ℤ → List ℕ
track_report k x =
    let s = stored_settings k in
    track_head (F s (length x)) (samples_left s (length x)) ++ lines_text k.nb (paper_row k x no_previous) (F s (length x))

-- what a program prints for the input b with this head
unfoldable pub track_text : Head → List ℕ → List ℕ
track_text head b = cond (eqb (recording_no head b) 0) (track_report (head_settings head b) (samples_in head b)) (refused_text (recording_no head b))

-- ---- the whole outcome of a call

-- what `track_text` leaves of `out`, `samples` and `table` for the input b with this head
unfoldable pub track_text_call : Head → List ℕ → List ℕ → List ℤ → List ℤ → RecordingPrinted
track_text_call head b = printed_for head b (track_text head b)

-- the frame count of x, and the table with its rows: what the program's own track leaves before its text is written
pub record Tracked (k : TrackSettings) (x before : List ℤ) (frames : ℕ) (table : List ℤ) : Type 0 where
  pub count : frames ≡ F (stored_settings k) (length x)
  pub rows : table ≡ paper_table k before x
