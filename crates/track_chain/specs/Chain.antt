-- A chain of deliveries from a fresh start, and what the track on paper says of all of it (docs/SCOPE.md, Track). Definitions only.
use Rattle.std.specs.Prelude.{Result, ℕ, suc, ◌*◌, ◌/◌, ◌<◌, ◌≡◌, cond, List, [], ◌∷◌, ◌++◌, ℤ, length, take, drop, eqb}
use Rattle.track_settings.specs.declared.TrackSettings.{TrackSettings}
use Rattle.track_settings.specs.TrackSettings.{stored_settings, row_settings}
use Rattle.pitch_track.specs.declared.Track.{Track}
use Rattle.pitch_table.specs.Row.{row_size, numbers, row_at}
use Rattle.track_paper.specs.Paper.{answer_no, track_limit, after, previous, no_previous, window, paper_row, joined_samples, paper_answers, frames_done, samples_held, paper_table}
use Rattle.track_chain.specs.Meaning.{RowSays}
use Rattle.pitch_track.specs.Step.{DeliveryOutcome, padded, start_call, deliver_call}

-- what a chain of calls leaves: each call's answer, and the state and the table at the end
pub record Left : Type 0 where
  pub said : List (Result ℕ ℕ)
  pub track : Track
  pub table : List ℤ

-- a call's answer stands before those of the calls that follow it
abbrev pub then : DeliveryOutcome → Left → Left
then o l = record { said = o.delivered.answer ∷ l.said; track = l.track; table = l.table }

-- each call has the state that the call before handed back, and the table as that call left it
unfoldable pub chain : Track → List ℤ → List (List ℤ) → Left
chain tr t [] = record { said = []; track = tr; table = t }
chain tr t (d ∷ ds) = then (deliver_call tr t d) (chain (deliver_call tr t d).delivered.track (deliver_call tr t d).table ds)

-- the chain from a fresh start
abbrev pub run_from_start : TrackSettings → List ℤ → List (List ℤ) → Left
run_from_start k t ds = chain (start_call k).track t ds

-- J at the end of the list, on paper
abbrev pub final_samples : TrackSettings → List ℤ → List (List ℤ) → List ℤ
final_samples k t ds = joined_samples track_limit (stored_settings k) (length t / row_size) [] ds

-- the claim about the whole list
pub record OnPaper (k : TrackSettings) (t : List ℤ) (ds : List (List ℤ)) : Type 0 where
  pub said : (run_from_start k t ds).said ≡ paper_answers track_limit (stored_settings k) (length t / row_size) [] ds
  pub frames : (run_from_start k t ds).track.frames ≡ frames_done (stored_settings k) (final_samples k t ds)
  pub held : take (run_from_start k t ds).track.count (run_from_start k t ds).track.held ≡ samples_held (stored_settings k) (final_samples k t ds)
  pub rows : (i : ℕ) → i < frames_done (stored_settings k) (final_samples k t ds) → take row_size (drop (i * row_size) (run_from_start k t ds).table) ≡ numbers (paper_row k (final_samples k t ds) no_previous i)
  pub others : drop (frames_done (stored_settings k) (final_samples k t ds) * row_size) (run_from_start k t ds).table ≡ drop (frames_done (stored_settings k) (final_samples k t ds) * row_size) t
  pub size : length (run_from_start k t ds).table ≡ length t

-- the numbers that a chain's answers say: 0 where a delivery was accepted, else the refusal's
unfoldable pub answer_nos : List (Result ℕ ℕ) → List ℕ
answer_nos [] = []
answer_nos (a ∷ rest) = answer_no a ∷ answer_nos rest

-- ---- the cuts: lists of deliveries with the same settings and the same accepted samples, joined, finish the same rows

-- the samples of the deliveries that were accepted, joined, by the number said of each
abbrev pub accepted_part : ℕ → List ℤ → List ℤ
accepted_part n d = cond (eqb n 0) d []

unfoldable pub accepted_samples : List ℕ → List (List ℤ) → List ℤ
accepted_samples [] ds = []
accepted_samples (n ∷ rest) [] = []
accepted_samples (n ∷ rest) (d ∷ ds) = accepted_part n d ++ accepted_samples rest ds

-- those of a list of deliveries
abbrev pub accepted_in : TrackSettings → List ℤ → List (List ℤ) → List ℤ
accepted_in k t ds = accepted_samples (answer_nos (run_from_start k t ds).said) ds

-- the finished rows in a table, by the frames done
abbrev pub finished : Track → List ℤ → List ℤ
finished track table = take (track.frames * row_size) table

-- a track and its table end as a chain does: the finished rows, the frames done, the samples held and the state
pub record EndsAs (track : Track) (table : List ℤ) (l : Left) : Type 0 where
  pub rows_same : finished track table ≡ finished l.track l.table
  pub frames_same : track.frames ≡ l.track.frames
  pub held_same : take track.count track.held ≡ take l.track.count l.track.held
  pub state_same : track ≡ l.track

-- the claim about two lists of deliveries, ds into a table t and es into a table u
abbrev pub SameRows : TrackSettings → List ℤ → List ℤ → List (List ℤ) → List (List ℤ) → Type 0
SameRows k t u ds es = accepted_in k t ds ≡ accepted_in k u es → EndsAs (run_from_start k t ds).track (run_from_start k t ds).table (run_from_start k u es)

-- the state on paper: that of a track whose accepted samples are j
unfoldable pub paper_state : TrackSettings → List ℤ → Track
paper_state k j =
    record {
      settings = k;
      frames = frames_done (stored_settings k) j;
      held = padded (samples_held (stored_settings k) j);
      count = length (samples_held (stored_settings k) j);
      prev = previous k j no_previous (frames_done (stored_settings k) j);
    }

-- what a chain leaves: its answers' numbers, its track and its table are those of the track on paper; and it ends as every other list does, into any table, whose accepted samples,
-- joined, are those that its own answers tell
pub record Ended (k : TrackSettings) (t : List ℤ) (ds : List (List ℤ)) (said : List ℕ) (track : Track) (table : List ℤ) : Type 0 where
  pub answers_are : said ≡ answer_nos (paper_answers track_limit (stored_settings k) (length t / row_size) [] ds)
  pub frames_are : track.frames ≡ frames_done (stored_settings k) (final_samples k t ds)
  pub held_are : take track.count track.held ≡ samples_held (stored_settings k) (final_samples k t ds)
  pub rows_are : (i : ℕ) → i < frames_done (stored_settings k) (final_samples k t ds) → take row_size (drop (i * row_size) table) ≡ numbers (paper_row k (final_samples k t ds) no_previous i)
  pub others_are : drop (frames_done (stored_settings k) (final_samples k t ds) * row_size) table ≡ drop (frames_done (stored_settings k) (final_samples k t ds) * row_size) t
  pub rows_say : (i : ℕ) → i < frames_done (stored_settings k) (final_samples k t ds)
      → RowSays (row_settings k (previous k (final_samples k t ds) no_previous i).signal) (window (stored_settings k) (final_samples k t ds) i) (previous k (final_samples k t ds) no_previous i) (row_at table i)
  -- what stands before the next row, its type among it, is what this row leaves
  pub rows_leave : (i : ℕ) → i < frames_done (stored_settings k) (final_samples k t ds) → previous k (final_samples k t ds) no_previous (suc i) ≡ after (stored_settings k) (row_at table i)
  pub state_is : track ≡ paper_state k (final_samples k t ds)
  pub table_is : table ≡ paper_table k t (final_samples k t ds)
  pub cuts_free : (u : List ℤ) (es : List (List ℤ)) → accepted_samples said ds ≡ accepted_in k u es → EndsAs track table (run_from_start k u es)
