-- A frame: what `silk_pitch_analysis_core` answers for the settings s, the frame's samples x and the previous lag and correlation (docs/SCOPE.md, Stages and Track;
-- pitch_analysis.rs). Definitions only; what they say in words is in `Meaning`.
use Rattle.std.specs.Prelude.{Result, Ok, Err, cond, List, [], ◌∷◌, ℕ, ◌*◌, ◌/◌, eqb, ltb, ℤ, pos, ◌-ℤ◌, length, take}
use Rattle.answers.specs.Answer.{answer_numbers}
use Rattle.lists.specs.Fill.{filled}
use Rattle.pitch_settings.specs.declared.Settings.{Settings}
use Rattle.pitch_settings.specs.Settings.{settings_no, frame_length}
use Rattle.pitch_table.specs.declared.Row.{Row}
use Rattle.pitch_table.specs.Row.{numbers, pair_lag, voiced_row, unpitched_row}
use Rattle.frame_signals.specs.Scale.{scaled}
use Rattle.silk_resampler.specs.Down23.{filter_numbers, source_filter}
use Rattle.frame_signals.specs.Signals.{down_to_8khz, down_to_4khz}
use Rattle.stage1.specs.Stage1.{stage1, kept_lags, Screen, ZeroDivisor as Zero1, Unvoiced as Unvoiced1, Goes}
use Rattle.stage2.specs.Stage2.{stage2, Stage2, ZeroDivisor as Zero2, Unvoiced as Unvoiced2, Winner}
use Rattle.stage3.specs.Stage3.{stage3}
use Rattle.stage3.specs.Pick.{Found, Pair, ZeroDivisor as Zero3}
use Rattle.silk_pitch_analysis.specs.declared.Verdict.{Verdict}
use Rattle.silk_pitch_analysis.specs.declared.Verdict.TheVariants.{Voiced, Unvoiced, ZeroDivisor}

-- ---- the signals: the working frame w, its 8 kHz form e and its 4 kHz form f

abbrev pub signal8 : Settings → List ℤ → List ℤ
signal8 s w = down_to_8khz (filter_numbers source_filter) s.rate w

abbrev pub signal4 : Settings → List ℤ → List ℤ
signal4 s w = down_to_4khz (signal8 s w)

-- ---- the last stage

-- the scaled winner: stage 2's winning lag at the frame's own rate
unfoldable pub scaled_lag : ℕ → ℕ → ℕ
scaled_lag fs lag = lag * fs / 8

-- the lag index counts from 2fs
abbrev pub from_pair : ℕ → ℤ → Found → Verdict
from_pair fs corr (Pair lag contour) = Voiced (pos lag -ℤ pos (2 * fs)) (pos contour) corr
from_pair fs corr Zero3 = ZeroDivisor

-- at 8 kHz stage 2 is the last stage, and the pair is its winning lag with its contour; at 12 and 16 kHz stage 3 is
unfoldable pub last_stage : Settings → List ℤ → ℕ → ℕ → ℤ → Verdict
last_stage s w lag contour corr =
    cond (eqb s.rate 8) (from_pair s.rate corr (Pair lag contour))
    (from_pair s.rate corr (stage3 w s.rate s.nb s.complexity (scaled_lag s.rate lag)))

-- ---- the stages in order: stage 2 is entered only where stage 1 goes on, the last stage only with a winner

abbrev pub from_winner : Settings → List ℤ → Stage2 → Verdict
from_winner s w (Winner lag contour corr) = last_stage s w lag contour corr
from_winner s w Unvoiced2 = Unvoiced
from_winner s w Zero2 = ZeroDivisor

-- stage 2 on the signals e and f
unfoldable pub second_stage : Settings → List ℤ → List ℤ → ℤ → ℤ → Stage2
second_stage s e f prev corr = stage2 e (kept_lags f s.nb s.complexity s.thres1) s.rate s.nb s.complexity s.thres2 prev corr

abbrev pub from_screen : Settings → List ℤ → List ℤ → List ℤ → ℤ → ℤ → Screen → Verdict
from_screen s w e f prev corr Goes = from_winner s w (second_stage s e f prev corr)
from_screen s w e f prev corr Unvoiced1 = Unvoiced
from_screen s w e f prev corr Zero1 = ZeroDivisor

-- all stages on a working frame w
unfoldable pub staged : Settings → List ℤ → ℤ → ℤ → Verdict
staged s w prev corr = from_screen s w (signal8 s w) (signal4 s w) prev corr (stage1 (signal4 s w) s.nb s.complexity s.thres1).screen

-- the frame x: the stages on its working frame
unfoldable pub verdict_of : Settings → List ℤ → ℤ → ℤ → Verdict
verdict_of s x prev corr = staged s (scaled x) prev corr

-- ---- the row of a verdict

-- the lag of subframe k: the RFC's rebuilding of a voiced verdict's pair, else 0
abbrev pub lag_of : Settings → Verdict → ℕ → ℤ
lag_of s (Voiced index contour corr) k = pair_lag s index contour k
lag_of s Unvoiced k = pos 0
lag_of s ZeroDivisor k = pos 0

-- a voiced verdict's row has its pair and correlation, the two others' nothing after the verdict
unfoldable pub row_from : Settings → Verdict → Row
row_from s (Voiced index contour corr) = voiced_row s index contour corr
row_from s Unvoiced = unpitched_row (pos 1)
row_from s ZeroDivisor = unpitched_row (pos 2)

unfoldable pub frame_row : Settings → List ℤ → ℤ → ℤ → Row
frame_row s x prev corr = row_from s (verdict_of s x prev corr)

-- ---- the frame call: refusals 1 to 5 in order, by n samples and m lag places; 0 where there is none

unfoldable pub frame_no : Settings → ℕ → ℕ → ℕ
frame_no s n m = cond (eqb (settings_no s) 0) (cond (ltb n (frame_length s)) 4 (cond (ltb m s.nb) 5 0)) (settings_no s)

-- the answer, and the lag places at exit
pub record FrameOutcome : Type 0 where
  pub answer : Result Verdict ℕ
  pub lags : List ℤ

abbrev pub frame_outcome : Result Verdict ℕ → List ℤ → FrameOutcome
frame_outcome a l = record { answer = a; lags = l }

-- the nb lag places are written, and the others kept
unfoldable pub analysed : Settings → Verdict → List ℤ → FrameOutcome
analysed s v l = frame_outcome (Ok v) (filled (lag_of s v) s.nb l)

-- a refusal changes no lag place; else the first N samples decide
unfoldable pub frame_call : Settings → List ℤ → List ℤ → ℤ → ℤ → FrameOutcome
frame_call s x l prev corr =
    cond (eqb (frame_no s (length x) (length l)) 0) (analysed s (verdict_of s (take (frame_length s) x) prev corr) l)
    (frame_outcome (Err (frame_no s (length x) (length l))) l)

-- ---- the row call: the same refusals, and the row of the first N samples. A row has four lag places, enough for every nb, so there is no refusal 5

unfoldable pub row_answer : Settings → List ℤ → ℤ → ℤ → Result Row ℕ
row_answer s x prev corr =
    cond (eqb (frame_no s (length x) 4) 0) (Ok (frame_row s (take (frame_length s) x) prev corr)) (Err (frame_no s (length x) 4))

-- ---- the answers in numbers

-- a verdict: its number, then lag index, contour index and correlation
abbrev pub verdict_numbers : Verdict → List ℤ
verdict_numbers (Voiced index contour corr) = pos 0 ∷ index ∷ contour ∷ corr ∷ []
verdict_numbers Unvoiced = pos 1 ∷ pos 0 ∷ pos 0 ∷ pos 0 ∷ []
verdict_numbers ZeroDivisor = pos 2 ∷ pos 0 ∷ pos 0 ∷ pos 0 ∷ []

-- a refusal is its number; 0 and the verdict's numbers where there is none
abbrev pub frame_answer_numbers : Result Verdict ℕ → List ℤ
frame_answer_numbers (Err k) = pos k ∷ []
frame_answer_numbers (Ok v) = pos 0 ∷ verdict_numbers v

-- and 0 and the row's eight numbers
abbrev pub row_answer_in_numbers : Result Row ℕ → List ℤ
row_answer_in_numbers (Err k) = pos k ∷ []
row_answer_in_numbers (Ok row) = pos 0 ∷ numbers row

-- what the frame call says of the samples x with m lag places: the refusal, or the first four numbers of the row
unfoldable pub frame_in_numbers : Settings → List ℤ → ℕ → ℤ → ℤ → List ℤ
frame_in_numbers s x m prev corr = answer_numbers (frame_no s (length x) m) (take 4 (numbers (frame_row s (take (frame_length s) x) prev corr)))

-- what the row call says: the refusal, or the row
unfoldable pub row_in_numbers : Settings → List ℤ → ℤ → ℤ → List ℤ
row_in_numbers s x prev corr = answer_numbers (frame_no s (length x) 4) (numbers (frame_row s (take (frame_length s) x) prev corr))
