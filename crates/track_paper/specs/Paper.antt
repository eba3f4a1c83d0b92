-- The track on paper (docs/SCOPE.md, Track): what the settings, the table as first lent and the deliveries decide, and nothing of a program's state. Definitions only.
use Rattle.std.specs.Prelude.{Result, Ok, Err, ℕ, zero, suc, ◌+◌, ◌-◌, ◌*◌, ◌/◌, List, [], ◌∷◌, ◌++◌, cond, ℤ, pos, length, take, drop, ltb, eqb}
use Rattle.refusals.specs.declared.Refusal.{Refusal}
use Rattle.refusals.specs.Refusals.{refusal_number}
use Rattle.pitch_settings.specs.declared.Settings.{Settings}
use Rattle.pitch_settings.specs.Settings.{frame_length, hop_length}
use Rattle.track_settings.specs.declared.TrackSettings.{TrackSettings}
use Rattle.track_settings.specs.TrackSettings.{stored_settings, row_settings}
use Rattle.zint.specs.Equal.{eq_z}
use Rattle.pitch_table.specs.Row.{row_size, most_frames, numbers}
use Rattle.silk_pitch_analysis.specs.Frame.{frame_row}
use Rattle.track_paper.specs.declared.Prev.{Prev}
use Rattle.track_paper.specs.declared.Limit.{Limit}
use Rattle.pitch_table.specs.declared.Row.{Row}

-- ---- answers: the frames then done, or the refusal's number

-- an answer by its number, 0 where it is accepted
unfoldable pub answer_of : ℕ → ℕ → Result ℕ ℕ
answer_of n frames = cond (eqb n 0) (Ok frames) (Err n)

-- an answer as one number: 0, or the refusal's
abbrev pub answer_no : Result ℕ ℕ → ℕ
answer_no (Ok frames) = 0
answer_no (Err n) = n

-- an answer as numbers: accepted is 0, with the frames done; a refusal is its number
abbrev pub track_answer_numbers : Result ℕ ℕ → List ℤ
track_answer_numbers (Ok frames) = pos 0 ∷ pos frames ∷ []
track_answer_numbers (Err n) = pos n ∷ []

-- ---- frames and rows

-- F(n): the frames in n samples
unfoldable pub frame_count : ℕ → ℕ → ℕ → ℕ
frame_count len hop n = cond (ltb n len) 0 (1 + (n - len) / hop)

abbrev pub F : Settings → ℕ → ℕ
F s n = frame_count (frame_length s) (hop_length s) n

-- the row of one frame (docs/SCOPE.md, Stages, and the row rules of Track), from the settings, its samples and what the row before it left; its second threshold is the fixed one, or
-- comes from the type of the row before
abbrev pub next_row : TrackSettings → List ℤ → Prev → Row
next_row k x p = frame_row (row_settings k p.signal) x p.lag p.correlation

-- what stands before the first row
abbrev pub no_previous : Prev
no_previous = record { lag = pos 0; correlation = pos 0; signal = pos 0 }

-- the type of a row's signal: 2 where it is voiced, and else 1
abbrev pub row_type : Row → ℤ
row_type r = cond (eq_z r.verdict (pos 0)) (pos 2) (pos 1)

-- what a row leaves to the next: the lag of its last subframe, its correlation and its type
unfoldable pub after : Settings → Row → Prev
after s r = record { lag = cond (eqb s.nb 2) r.lag1 r.lag3; correlation = r.correlation; signal = row_type r }

-- frame i of x: the N samples from i × hop on
unfoldable pub window : Settings → List ℤ → ℕ → List ℤ
window s x i = take (frame_length s) (drop (i * hop_length s) x)

-- what stands before row i of x, where p stands before row 0
unfoldable pub previous : TrackSettings → List ℤ → Prev → ℕ → Prev
previous k x p zero = p
previous k x p (suc i) = after (stored_settings k) (next_row k (window (stored_settings k) x i) (previous k x p i))

-- row i of x
unfoldable pub paper_row : TrackSettings → List ℤ → Prev → ℕ → Row
paper_row k x p i = next_row k (window (stored_settings k) x i) (previous k x p i)

-- the numbers of the first n rows of x
unfoldable pub paper_numbers : TrackSettings → List ℤ → Prev → ℕ → List ℤ
paper_numbers k x p zero = []
paper_numbers k x p (suc n) = paper_numbers k x p n ++ numbers (paper_row k x p n)

-- ---- deliveries

-- a limit with the number of its refusal in the refusal's place
abbrev pub numbered : Limit Refusal → Limit ℕ
numbered l = record { frames = l.frames; refusal = refusal_number l.refusal }

-- the limit of a track by itself: frames over `most_frames` are refused, with 6
abbrev pub track_limit : Limit ℕ
track_limit = record { frames = most_frames; refusal = 6 }

-- the number of a refusal of delivery d after the samples j, or 0, by a limit on the frames; rows is how many whole rows the table has
unfoldable pub paper_no : Limit ℕ → Settings → ℕ → List ℤ → List ℤ → ℕ
paper_no l s rows j d =
    cond (ltb l.frames (F s (length j + length d))) l.refusal
    (cond (ltb (F s (length j)) (F s (length j + length d))) (cond (ltb rows (F s (length j + length d))) 7 0) 0)

-- J after the delivery
unfoldable pub joined_by : Limit ℕ → Settings → ℕ → List ℤ → List ℤ → List ℤ
joined_by l s rows j d = cond (eqb (paper_no l s rows j d) 0) (j ++ d) j

-- what is said of it: accepted, with the frames then done, or refused with its number
unfoldable pub paper_answer : Limit ℕ → Settings → ℕ → List ℤ → List ℤ → Result ℕ ℕ
paper_answer l s rows j d = answer_of (paper_no l s rows j d) (F s (length j + length d))

-- J after a list of deliveries, and what is said of each
unfoldable pub joined_samples : Limit ℕ → Settings → ℕ → List ℤ → List (List ℤ) → List ℤ
joined_samples l s rows j [] = j
joined_samples l s rows j (d ∷ ds) = joined_samples l s rows (joined_by l s rows j d) ds

unfoldable pub paper_answers : Limit ℕ → Settings → ℕ → List ℤ → List (List ℤ) → List (Result ℕ ℕ)
paper_answers l s rows j [] = []
paper_answers l s rows j (d ∷ ds) = paper_answer l s rows j d ∷ paper_answers l s rows (joined_by l s rows j d) ds

-- ---- where the track stands when J is its samples

abbrev pub frames_done : Settings → List ℤ → ℕ
frames_done s j = F s (length j)

abbrev pub samples_held : Settings → List ℤ → List ℤ
samples_held s j = drop (frames_done s j * hop_length s) j

-- the table at the end: the finished rows, and then what it had at the start
unfoldable pub paper_table : TrackSettings → List ℤ → List ℤ → List ℤ
paper_table k t j = paper_numbers k j no_previous (frames_done (stored_settings k) j) ++ drop (frames_done (stored_settings k) j * row_size) t
