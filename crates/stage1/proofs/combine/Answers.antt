-- `stage1::combine` meets its contract: the closure is called at each place in turn, and each call leaves it as it was.
use Rattle.std.proofs.Common.{rules, ◌≡◌, sym, subst, ap, ◌∙◌, ℕ, zero, suc, ◌+◌, ◌≤◌, ◌<◌, List, ℤ, pos, ◌+ℤ◌, get_or, arith}
use Rattle.std.proofs.Math.Decide.{dec_lt}
use Rattle.std.specs.Array.{IsFromFnResultFrom}
use Rattle.std.specs.Fn.{Mut, Called}
use Rattle.zint.specs.RuleLaws.{zneeds}
use Rattle.lists.specs.Signal.{sample}
use Rattle.lists.specs.FillLaws.{tabulate_is}
use Rattle.stage1.specs.Stage1.{biased1}
use Rattle.stage1.proofs.combine.Goals as goal

-- what calls at the places from i on gave, where a call at place k gives h k
module _ {F : Type 0} {g : Mut F (ℕ × Unit {0}) ℤ} (h : ℕ → ℤ) (ys : List ℤ) (m : ℕ) where
  made : (f : F) (i n : ℕ) → ((k : ℕ) (y : ℤ) (q : F) → k < m → Called g f (k, tt) y q → (y ≡ h k) × (q ≡ f)) → i + n ≤ m → IsFromFnResultFrom g f ys i n → (k : ℕ) → i ≤ k → k < i + n → h k ≡ get_or ys k (pos 0)
  made f i zero call b r k l u = absurd (omega arith)
  made f i (suc n) call b (q, y, e, r, rest) k l u =
      let v = call i y q (omega arith) r in
      by (dec_lt i k) v.0 (λ t. made f (i + 1) n call (omega arith) (subst (λ (p : F). IsFromFnResultFrom g p ys (i + 1) n) v.1 rest) k (omega arith) (omega arith))
    where
      by : Dec (i < k) → y ≡ h i → (i < k → h k ≡ get_or ys k (pos 0)) → h k ≡ get_or ys k (pos 0)
      by (yes t) v w = w t
      by (no t) v w = let z : k ≡ i = omega arith in ap h z ∙ sym v ∙ sym (e.1 (pos 0)) ∙ ap (λ (j : ℕ). get_or ys j (pos 0)) (sym z)

pub returns : goal.returns
unfolding sample
returns c =
    let a = c.args in
    let o = c.from_fn.ensures.items in
    let h : ℕ → ℤ = λ i. biased1 (sample a.first.now i +ℤ sample a.second.now i) (8 + i) in
    sym (tabulate_is h 65 c.from_fn.result (pos 0) (sym o.long) (λ k l. made h c.from_fn.result 65 _ 0 65 (λ i y q u r. (search (rules, zneeds), search (rules, zneeds))) (omega arith) o.each k (omega arith) l))
