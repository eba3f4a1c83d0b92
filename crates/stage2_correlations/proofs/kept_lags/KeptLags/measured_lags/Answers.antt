-- `stage2_correlations::KeptLags::measured_lags` meets its contract.
use Rattle.std.proofs.Common.{rules, ◌≡◌, refl, sym, ap, subst, ◌∙◌, arith, ℕ, zero, suc, ◌+◌, ◌≤◌, ◌<◌, List, false, get_or}
use Rattle.std.proofs.Math.Decide.{dec_lt}
use Rattle.std.specs.Array.{IsFromFnResultFrom}
use Rattle.std.specs.Fn.{Mut, Called}
use Rattle.lists.specs.FillLaws.{tabulate_is}
use Rattle.stage2_correlations.specs.Marks.{measured}
use Rattle.stage2_correlations.proofs.kept_lags.KeptLags.measured_lags.Goals as goal

-- what calls at each number from i on gave, where every call gives h of its number and keeps J
module _ {F B : Type 0} (g : Mut F (ℕ × Unit {0}) B) (h : ℕ → B) (J : F → Type 0) (says : (p : F) (i : ℕ) (y : B) (q : F) → J p → Called g p (i, tt) y q → (h i ≡ y) × J q) (ys : List B) (d : B) where
  given_from : (n i : ℕ) (f : F) → J f → IsFromFnResultFrom g f ys i n → (k : ℕ) → i ≤ k → k < i + n → h k ≡ get_or ys k d
  given_from zero i f j r k a b = absurd (omega arith)
  given_from (suc n) i f j (q, y, e, called, rest) k a b =
      let told = says f i y q j called in
      by_case (told.0 ∙ sym (e.1 d)) (λ l. given_from n (i + 1) q told.1 rest k l (omega arith)) (dec_lt i k)
    where
      by_case : h i ≡ get_or ys i d → (i + 1 ≤ k → h k ≡ get_or ys k d) → Dec (i < k) → h k ≡ get_or ys k d
      by_case here later (yes l) = later (omega arith)
      by_case here later (no m) =
          let same : i ≡ k = omega arith in
          subst (λ (t : ℕ). h t ≡ get_or ys t d) same here

pub returns : goal.returns
returns c =
    let made = c.from_fn.ensures.items in
    let kept = c.args.self.lags.now in
    sym (tabulate_is (λ (i : ℕ). measured kept (14 + i)) 132 c.from_fn.result false (sym made.long)
    (λ k h. given_from _ (λ (i : ℕ). measured kept (14 + i)) (λ f. f.0.now.lags.now ≡ kept) (λ p i y q j e. let told : measured p.0.now.lags.now (14 + i) ≡ y = search rules in (ap (λ (l : List ℕ). measured l (14 + i)) (sym j) ∙ told, search rules)) c.from_fn.result false 132 0 _ refl made.each k (omega arith) h))
