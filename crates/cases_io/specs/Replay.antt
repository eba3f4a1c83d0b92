-- What replaying a list of cases tells. Definitions only.
use Rattle.std.specs.Prelude.{ℕ, ◌<◌, min, max, Bool, Option, Some, None, List, [], length, take, drop}
use Rattle.cases_io.specs.declared.Tally.{Tally}
use Rattle.cases_io.specs.Counts.{tally_after}

-- a tally after a case that agrees, does not, or is not counted
unfoldable pub tally_answered : Tally → Option Bool → Tally
tally_answered t None = t
tally_answered t (Some agrees) = tally_after t agrees

-- the bytes of the first case of a list where n are told: at least one, and no more than there are
abbrev pub case_size : ℕ → List ℕ → ℕ
case_size n rest = min (max n 1) (length rest)

-- the cases of a list lead from one tally to another: `size` tells how many bytes the first case has, and `answer` whether a case agrees
pub data Replayed (size : List ℕ → ℕ → Type 0) (answer : List ℕ → Option Bool → Type 0) : Tally → List ℕ → Tally → Type 0 where
  at_end : {t : Tally} → Replayed size answer t [] t
  case_more : {t u : Tally} {rest : List ℕ} (n : ℕ) (o : Option Bool) → 0 < length rest → size rest n → answer (take (case_size n rest) rest) o
      → Replayed size answer (tally_answered t o) (drop (case_size n rest) rest) u → Replayed size answer t rest u
