-- The head of a recording (docs/FORMAT.md): the bytes before its samples, little-endian, which say the settings of its track. Definitions only.
use Rattle.std.specs.Prelude.{Bool, true, cond, List, ℕ, zero, suc, ◌+◌, eqb, leb, pos, get_or, Result, Ok, Err}
use Rattle.sheet_bytes.specs.Bytes.{signed_at}
use Rattle.pitch_input.specs.Input.{head_size, input_settings, sample_at}
use Rattle.track_settings.specs.declared.Speech.{Speech}
use Rattle.track_settings.specs.declared.SecondThreshold.{SecondThreshold}
use Rattle.track_settings.specs.declared.SecondThreshold.TheVariants.{Fixed, FromSpeech}
use Rattle.track_settings.specs.declared.TrackSettings.{TrackSettings}
use Rattle.track_settings.specs.TrackSettings.{fixed_settings}
use Rattle.recording_head.specs.declared.Kind.{Kind}
use Rattle.recording_head.specs.declared.Kind.TheVariants as kinds
use Rattle.recording_head.specs.declared.NoKind.{NoKind}
use Rattle.recording_head.specs.declared.Head.{Head}
use Rattle.recording_head.specs.declared.Head.TheVariants.{Plain, Options}

-- ---- sizes

-- the bytes of the head that names options
abbrev pub options_size : ℕ
options_size = 12

-- the bytes of a head
abbrev pub bytes_of_head : Head → ℕ
bytes_of_head Plain = head_size
bytes_of_head Options = options_size

-- those of the longest
abbrev pub longest_head_size : ℕ
longest_head_size = options_size

-- ---- what its bytes say

-- what the thresholds are found from, in the four bytes from `at` on: order and activity, a byte each, and the tilt, two signed bytes
unfoldable pub speech_in : List ℕ → ℕ → Speech
speech_in b at = record { order = pos (get_or b at 0); activity = pos (get_or b (at + 1) 0); tilt = sample_at b (at + 2) }

-- the kind with this number
unfoldable pub kind_of : ℕ → Result Kind NoKind
kind_of zero = Ok kinds.Fixed
kind_of (suc zero) = Ok kinds.FromSpeech
kind_of (suc (suc n)) = Err (record {})

-- the second threshold, in the four bytes from `at` on: kind 1 from the speech, any other a fixed one, signed
unfoldable pub second_in : ℕ → List ℕ → ℕ → SecondThreshold
second_in kind b at = cond (eqb kind 1) (FromSpeech (speech_in b at)) (Fixed (signed_at b at))

-- rate, nb, complexity and kind, a byte each; thres1, four signed bytes; four bytes for the second threshold
unfoldable pub options_settings : List ℕ → TrackSettings
options_settings b = record { rate = get_or b 0 0; nb = get_or b 1 0; complexity = get_or b 2 0; thres1 = signed_at b 4; thres2 = second_in (get_or b 3 0) b 8 }

-- the settings of the track
unfoldable pub head_settings : Head → List ℕ → TrackSettings
head_settings Plain b = fixed_settings (input_settings b)
head_settings Options b = options_settings b

-- all options that it names are known: the kind is 0 or 1
unfoldable pub head_known : Head → List ℕ → Bool
head_known Plain b = true
head_known Options b = leb (get_or b 3 0) 1
