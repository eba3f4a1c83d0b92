-- `stage1::run_above` meets its contract: the first score that is not above the threshold.
use Rattle.std.proofs.Common.{◌≡◌, ◌∙◌, arith, rules, length, ◌≤◌, ◌<◌, ℕ, ℤ, pos, List, Option, Some, None, ◌<ℤ◌, ◌≤ℤ◌, tests, MatchOption, unwrap_or, HoldsAt}
use Rattle.std.proofs.lemmas.Iterator.{YieldsList-from_slice, IsFirst-from_position}
use Rattle.std.specs.List.{AllWithin}
use Rattle.lists.specs.Signal.{sample}
use Rattle.stage1.specs.KeptLaws.{count_above_is}
use Rattle.stage1.specs.Steps.{count_above}
use Rattle.stage1.proofs.run_above.Goals as goal

-- the place from where the first is, or that there is none
counted : (c : List ℤ) (t : ℤ) (r : Option ℕ) → MatchOption r (AllWithin (λ x. t <ℤ x) c 0 (length c)) (λ i. (i < length c) × HoldsAt (λ x. x ≤ℤ t) c i × AllWithin (λ x. t <ℤ x) c 0 i)
    → (unwrap_or r (length c) ≡ count_above c (length c) t) × (unwrap_or r (length c) ≤ length c)
unfolding sample
counted c t None h = (count_above_is c (length c) t (length c) (omega arith) (λ q l. h q (pos 0) (omega arith) l) (λ l. absurd (omega arith)), omega arith)
counted c t (Some i) (l, h, k) = (count_above_is c (length c) t i (omega arith) (λ q m. k q (pos 0) (omega arith) m) (λ m. h (pos 0)), omega arith)

pub returns : goal.returns
returns c =
    let a = c.args in
    let e = counted a.c_combined.now a.threshold c.position.result
    (IsFirst-from_position _ _ _ (λ x. x ≤ℤ a.threshold) (λ x. a.threshold <ℤ x) c.position.ensures.ran (YieldsList-from_slice a.c_combined.now cc) (λ x q k. search (rules, tests)) (λ x q k. search (rules, tests))) in
    record { value = c.unwrap_or.ensures ∙ e.0; within = omega (arith, e.1) }
