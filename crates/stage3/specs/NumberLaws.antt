-- Stage 3's answer in numbers has the verdict and the values that its definitions say.
use Rattle.std.specs.Prelude.{◌≡◌, Bool, cond, List, ℕ, ℤ, refl, true, false}
use Rattle.std.proofs.Common.{ap, ◌∙◌}
use Rattle.answers.specs.Answer.{answer_numbers}
use Rattle.best.specs.Best.{Place, none, at}
use Rattle.stage3.specs.Pick.{Found, ZeroDivisor, pair_at, zero3, best3, pick}
use Rattle.stage3.specs.Stage3.{choice, stage3, found_numbers, pair_values, stage3_verdict, stage3_values}

module _ (w : List ℤ) (fs nb cx lag : ℕ) where
  in_numbers : found_numbers (stage3 w fs nb cx lag) ≡ answer_numbers (stage3_verdict w fs nb cx lag) (stage3_values w fs nb cx lag)
  unfolding stage3 pick stage3_verdict stage3_values
  in_numbers = by (zero3 (choice w fs nb cx lag)) (best3 (choice w fs nb cx lag))
    where
      by : (t : Bool) (a : Place) → found_numbers (cond t ZeroDivisor (pair_at (choice w fs nb cx lag) a)) ≡ answer_numbers (cond t 2 0) (pair_values (choice w fs nb cx lag) a)
      by true a = refl
      by false none = refl
      by false (at p) = refl

  -- an answer that is stage 3's is so in numbers too
  pub and_numbers : (x : Found) → x ≡ stage3 w fs nb cx lag
      → (x ≡ stage3 w fs nb cx lag) × (found_numbers x ≡ answer_numbers (stage3_verdict w fs nb cx lag) (stage3_values w fs nb cx lag))
  and_numbers x q = (q, ap found_numbers q ∙ in_numbers)
