-- The numbers of the refusals (docs/SCOPE.md, Refusals), and an answer with its refusal's number. Definitions only.
use Rattle.std.specs.Prelude.{ℕ, Result, Ok, Err}
use Rattle.refusals.specs.declared.Refusal.{Refusal}
use Rattle.refusals.specs.declared.Refusal.TheVariants.{Rate, Subframes, Complexity, ShortFrame, ShortSlots, LongTrack, ShortTable, ShortPage, Malformed, HalfInput, ThresholdRange}

-- the number of each refusal
abbrev pub refusal_number : Refusal → ℕ
refusal_number Rate = 1
refusal_number Subframes = 2
refusal_number Complexity = 3
refusal_number ShortFrame = 4
refusal_number ShortSlots = 5
refusal_number LongTrack = 6
refusal_number ShortTable = 7
refusal_number ShortPage = 8
refusal_number Malformed = 9
refusal_number HalfInput = 10
refusal_number ThresholdRange = 11

-- an answer with its refusal's number in place of the refusal; the definitions answer so
abbrev pub told : {A : Type 0} → Result A Refusal → Result A ℕ
told (Ok a) = Ok a
told (Err r) = Err (refusal_number r)

-- the number of an answer's refusal, or 0 where it is none
abbrev pub number_told : {A : Type 0} → Result A Refusal → ℕ
number_told (Ok _) = 0
number_told (Err r) = refusal_number r
