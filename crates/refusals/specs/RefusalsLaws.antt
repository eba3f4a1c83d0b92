-- A refusal's number tells which refusal it is, and is never 0: so a contract that gives the number of an answer, or the answer with its number, gives the answer.
use Rattle.std.specs.Prelude.{◌≡◌, refl, cond, ℕ, ◌<◌, eqb, Result, Ok, Err}
use Rattle.std.proofs.Common.{sym, ◌∙◌, ap, arith}
use Rattle.refusals.specs.declared.Refusal.{Refusal}
use Rattle.refusals.specs.declared.Refusal.TheVariants.{Rate, Subframes, Complexity, ShortFrame, ShortSlots, LongTrack, ShortTable, ShortPage, Malformed, HalfInput, ThresholdRange}
use Rattle.refusals.specs.Refusals.{refusal_number, told, number_told}

-- no refusal's number is 0
pub number_positive : (r : Refusal) → 0 < refusal_number r
number_positive Rate = omega arith
number_positive Subframes = omega arith
number_positive Complexity = omega arith
number_positive ShortFrame = omega arith
number_positive ShortSlots = omega arith
number_positive LongTrack = omega arith
number_positive ShortTable = omega arith
number_positive ShortPage = omega arith
number_positive Malformed = omega arith
number_positive HalfInput = omega arith
number_positive ThresholdRange = omega arith

-- what is refused has a number that is not 0
pub refused_positive : (r : Refusal) {n : ℕ} → refusal_number r ≡ n → n ≡ 0 → ⊥
refused_positive r e z = omega (arith, number_positive r, e, z)

-- the refusal of a number
abbrev numbered : ℕ → Refusal
numbered n =
    cond (eqb n 1) Rate
    (cond (eqb n 2) Subframes
    (cond (eqb n 3) Complexity
    (cond (eqb n 4) ShortFrame
    (cond (eqb n 5) ShortSlots
    (cond (eqb n 6) LongTrack
    (cond (eqb n 7) ShortTable
    (cond (eqb n 8) ShortPage
    (cond (eqb n 9) Malformed
    (cond (eqb n 10) HalfInput ThresholdRange)))))))))

numbered_back : (r : Refusal) → numbered (refusal_number r) ≡ r
numbered_back Rate = refl
numbered_back Subframes = refl
numbered_back Complexity = refl
numbered_back ShortFrame = refl
numbered_back ShortSlots = refl
numbered_back LongTrack = refl
numbered_back ShortTable = refl
numbered_back ShortPage = refl
numbered_back Malformed = refl
numbered_back HalfInput = refl
numbered_back ThresholdRange = refl

-- refusals with the same number are the same
pub same_refusal : (a b : Refusal) → refusal_number a ≡ refusal_number b → a ≡ b
same_refusal a b e = sym (numbered_back a) ∙ ap numbered e ∙ numbered_back b

-- the answer that was told so
abbrev untold : {A : Type 0} → Result A ℕ → Result A Refusal
untold (Ok a) = Ok a
untold (Err n) = Err (numbered n)

untold_back : {A : Type 0} (r : Result A Refusal) → untold (told r) ≡ r
untold_back (Ok a) = refl
untold_back (Err r) = ap Err (numbered_back r)

-- answers that are told alike are the same
pub same_answer : {A : Type 0} (a b : Result A Refusal) → told a ≡ told b → a ≡ b
same_answer a b e = sym (untold_back a) ∙ ap untold e ∙ untold_back b
