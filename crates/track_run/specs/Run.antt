-- A whole run: a fresh start and then the parts of a recording, and what it says and leaves. Definitions only.
use Rattle.std.specs.Prelude.{Result, ℕ, ◌≡◌, cond, List, [], ◌∷◌, ◌++◌, map, ℤ, length, take, drop, eqb}
use Rattle.refusals.specs.declared.Refusal.{Refusal}
use Rattle.refusals.specs.Refusals.{told}
use Rattle.track_settings.specs.declared.TrackSettings.{TrackSettings}
use Rattle.pitch_track.specs.declared.Answered.{Answered}
use Rattle.pitch_track.specs.Step.{Said, said as said_by, start_no, start_call}
use Rattle.track_chain.specs.Chain.{run_from_start, answer_nos, Ended}

-- the parts of x that have these lengths, one after the other
unfoldable pub parts : List ℕ → List ℤ → List (List ℤ)
parts [] x = []
parts (n ∷ ns) x = take n x ∷ parts ns (drop n x)

-- the deliveries that are made: none where the settings are refused, else the parts of x, as many as there are places for what is said
unfoldable pub deliveries : TrackSettings → List ℕ → List ℤ → ℕ → List (List ℤ)
deliveries k cuts x places = cond (eqb (start_no k) 0) (parts (take places cuts) x) []

-- answers with their refusals' numbers
abbrev pub told_all : List (Result ℕ Refusal) → List (Result ℕ ℕ)
told_all said = map (λ (a : Result ℕ Refusal). told a) said

-- what a run says, the answers of its deliveries, and the table at the end
pub record RunOutcome : Type 0 where
  pub ran : Said
  pub said : List (Result ℕ ℕ)
  pub table : List ℤ

abbrev pub run_outcome : Answered → List (Result ℕ Refusal) → List ℤ → RunOutcome
run_outcome r said t = record { ran = said_by r; said = told_all said; table = t }

-- what a run says and leaves: the start's answer, the chain's track and table, and the answer of each delivery in the first places of said, whose others stay
unfoldable pub run_call : TrackSettings → List ℤ → List (List ℤ) → List (Result ℕ Refusal) → RunOutcome
run_call k t ds said =
    record {
      ran = record { answer = (start_call k).answer; track = (run_from_start k t ds).track };
      said = (run_from_start k t ds).said ++ told_all (drop (length ds) said);
      table = (run_from_start k t ds).table;
    }

-- with settings that are accepted, it is the track on paper
abbrev pub EndsOnPaper : TrackSettings → List ℤ → List (List ℤ) → List (Result ℕ Refusal) → Answered → List ℤ → Type 0
EndsOnPaper k t ds said r table = start_no k ≡ 0 → Ended k t ds (answer_nos (told_all (take (length ds) said))) r.track table
