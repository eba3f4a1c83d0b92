-- Stage 2's answer in numbers has the verdict and the values that its definitions say.
use Rattle.std.specs.Prelude.{◌≡◌, Bool, cond, List, ℕ, ℤ, refl, true, false}
use Rattle.std.proofs.Common.{ap, ◌∙◌}
use Rattle.answers.specs.Answer.{answer_numbers}
use Rattle.best.specs.Best.{Place, none, at}
use Rattle.stage2_correlations.specs.Correlations.{zero2}
use Rattle.stage2.specs.Stage2.{Stage2, ZeroDivisor, winner, won, picked, search_of, stage2, stage2_numbers, won_verdict, won_values, stage2_verdict, stage2_values}
use Rattle.stage2.specs.Scores.{Search2}

module _ (e : List ℤ) (kept : List ℕ) (fs nb cx : ℕ) (thres2 prev corr : ℤ) where
  abbrev s : Search2
  s = search_of e kept fs nb cx thres2 prev corr

  in_numbers : stage2_numbers (stage2 e kept fs nb cx thres2 prev corr) ≡ answer_numbers (stage2_verdict e kept fs nb cx thres2 prev corr) (stage2_values e kept fs nb cx thres2 prev corr)
  unfolding stage2 picked stage2_verdict stage2_values
  in_numbers = by (zero2 e kept nb) (winner s)
    where
      by : (t : Bool) (a : Place) → stage2_numbers (cond t ZeroDivisor (won s a)) ≡ answer_numbers (cond t 2 (won_verdict a)) (won_values s a)
      by true a = refl
      by false none = refl
      by false (at p) = refl

  -- an answer that is stage 2's is so in numbers too
  pub and_numbers : (x : Stage2) → x ≡ stage2 e kept fs nb cx thres2 prev corr
      → (x ≡ stage2 e kept fs nb cx thres2 prev corr) × (stage2_numbers x ≡ answer_numbers (stage2_verdict e kept fs nb cx thres2 prev corr) (stage2_values e kept fs nb cx thres2 prev corr))
  and_numbers x q = (q, ap stage2_numbers q ∙ in_numbers)
