-- A recording as a program's input (docs/SCOPE.md, Programs): what all bytes of an input say, how it is refused, and what a program that takes it leaves in each lent place. Definitions only.
use Rattle.std.specs.Prelude.{Result, Ok, Err, Bool, ◌||◌, cond, List, ℕ, ◌+◌, ◌-◌, ◌*◌, ◌/◌, ◌%◌, ltb, eqb, ℤ, pos, length}
use Rattle.lists.specs.Fill.{overwritten}
use Rattle.pitch_input.specs.Input.{samples_from}
use Rattle.pitch_settings.specs.Settings.{longest_frame}
use Rattle.pitch_table.specs.Row.{row_size}
use Rattle.track_settings.specs.TrackSettings.{stored_settings, track_settings_no}
use Rattle.track_paper.specs.Paper.{F, paper_table}
use Rattle.recording_head.specs.declared.Head.{Head}
use Rattle.recording_head.specs.Head.{bytes_of_head, longest_head_size, head_settings, head_known}
use Rattle.pitch_recording.specs.declared.Recording.{Recording}

-- ---- sizes

-- the frames that a program takes at most
abbrev pub program_frames : ℕ
program_frames = 1024

-- the greatest hop: 16 kHz, four subframes
abbrev pub longest_hop : ℕ
longest_hop = 320

-- as many samples have more frames than a program takes, at all settings; as many bytes have them after every head
abbrev pub recording_samples : ℕ
recording_samples = program_frames * longest_hop + longest_frame

abbrev pub recording_bytes : ℕ
recording_bytes = longest_head_size + 2 * recording_samples

-- the numbers of a table with a row for each frame
abbrev pub recording_numbers : ℕ
recording_numbers = program_frames * row_size

-- ---- an input

-- the samples: those after the head
unfoldable pub samples_in : Head → List ℕ → List ℤ
samples_in head b = samples_from b (bytes_of_head head) ((length b - bytes_of_head head) / 2)

-- 10: too short for the head, or an odd sample byte
unfoldable pub half_input : Head → List ℕ → Bool
half_input head b = ltb (length b) (bytes_of_head head) || eqb ((length b - bytes_of_head head) % 2) 1

-- the order of the refusals: 10, then the settings' number (1, 2, 3, 11), then 6, then 9 where the head's options are not known; 0 where there is none
unfoldable pub first_recording_refusal : Bool → ℕ → Bool → Bool → ℕ
first_recording_refusal half wrong long known = cond half 10 (cond (eqb wrong 0) (cond long 6 (cond known 0 9)) wrong)

-- the number of an input's refusal, or 0; before the first row there is no signal
unfoldable pub recording_no : Head → List ℕ → ℕ
recording_no head b =
    first_recording_refusal (half_input head b) (track_settings_no (head_settings head b) (pos 0))
    (ltb program_frames (F (stored_settings (head_settings head b)) (length (samples_in head b)))) (head_known head b)

-- ---- the outcome of taking it

-- the settings of the input b, and how many samples it has
abbrev pub recording_of : Head → List ℕ → Recording
recording_of head b = record { settings = head_settings head b; samples = length (samples_in head b) }

-- what is said of the input b
unfoldable pub recording_answer : Head → List ℕ → Result Recording ℕ
recording_answer head b = cond (eqb (recording_no head b) 0) (Ok (recording_of head b)) (Err (recording_no head b))

-- the lent samples after the input b: its samples over their front; a refusal leaves them
unfoldable pub samples_after : Head → List ℕ → List ℤ → List ℤ
samples_after head b samples = cond (eqb (recording_no head b) 0) (overwritten (samples_in head b) samples) samples

pub record TakeOutcome : Type 0 where
  pub answer : Result Recording ℕ
  pub samples : List ℤ

abbrev pub take_outcome : Result Recording ℕ → List ℤ → TakeOutcome
take_outcome r x = record { answer = r; samples = x }

-- what `take_recording` says of the input b and leaves of the lent samples
unfoldable pub take_call : Head → List ℕ → List ℤ → TakeOutcome
take_call head b x = take_outcome (recording_answer head b) (samples_after head b x)

-- ---- the outcome of a program that tracks it and writes what it says

-- how many bytes were written, and the lent lists at the end
pub record RecordingPrinted : Type 0 where
  pub len : ℕ
  pub out : List ℕ
  pub samples : List ℤ
  pub table : List ℤ

abbrev pub recording_printed : ℕ → List ℕ → List ℤ → List ℤ → RecordingPrinted
recording_printed len out samples table = record { len = len; out = out; samples = samples; table = table }

-- the lent table after the input b: the rows of its track on paper, and then what the table had; a refusal leaves it
unfoldable pub table_after : Head → List ℕ → List ℤ → List ℤ
table_after head b table = cond (eqb (recording_no head b) 0) (paper_table (head_settings head b) table (samples_in head b)) table

-- these bytes written for the input b: over the front of `out`
unfoldable pub printed_for : Head → List ℕ → List ℕ → List ℕ → List ℤ → List ℤ → RecordingPrinted
printed_for head b text out samples table = recording_printed (length text) (overwritten text out) (samples_after head b samples) (table_after head b table)
