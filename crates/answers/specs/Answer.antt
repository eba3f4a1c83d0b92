-- An answer in numbers: the number of the case (a verdict's 0, 1, 2; a refusal's 1 to 11, or 0 where nothing is refused) and, where that is 0, the values that
-- come with it. A call that answers an enum says with it which case stands for which number and values.
use Rattle.std.specs.Prelude.{cond, List, [], ◌∷◌, ℕ, eqb, ℤ, pos}

abbrev pub answer_numbers : ℕ → List ℤ → List ℤ
answer_numbers number values = pos number ∷ cond (eqb number 0) values []
