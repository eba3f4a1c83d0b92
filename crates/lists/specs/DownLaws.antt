-- A list whose places from i up to n are given by a rule, which is what a loop that counts down and stores one element a turn leaves.
use Rattle.std.specs.Prelude.{◌≡◌, length, get_or, refl, List, [], ◌∷◌, ◌++◌, ℕ, zero, suc, ◌+◌, ◌-◌, ◌<◌, ◌≤◌, take, drop, set}
use Rattle.std.proofs.Common.{◌∙◌, length-append, length-drop, take-append-drop, take-suc, sym, ap, ap₂, arith, get_or-take, length-take-le}
use Rattle.std.proofs.Math.ListN.{get_or-append}
use Rattle.std.proofs.Math.Seq.{set_at, append_snoc}
use Rattle.lists.specs.Fill.{tabulate}
use Rattle.lists.specs.FillLaws.{length_tabulate, tabulate_ext}

module _ {A : Type 0} where
  tabulate_cons : (f : ℕ → A) (n : ℕ) → tabulate f (suc n) ≡ f 0 ∷ tabulate (λ k. f (suc k)) n
  unfolding tabulate
  tabulate_cons f zero = refl
  tabulate_cons f (suc n) = ap (λ (t : List A). t ++ (f (suc n) ∷ [])) (tabulate_cons f n)

  -- l with f i, .., f (n - 1) in the places from i up to n
  unfoldable pub filled_from : (ℕ → A) → ℕ → ℕ → List A → List A
  filled_from f i n l = take i l ++ (tabulate (λ k. f (i + k)) (n - i) ++ drop n l)

  pub from_none : (f : ℕ → A) (n : ℕ) (l : List A) → l ≡ filled_from f n n l
  unfolding filled_from tabulate
  from_none f n l =
      let e : 0 ≡ n - n = omega arith in
      sym (take-append-drop n l) ∙ ap (λ (m : ℕ). take n l ++ (tabulate (λ k. f (n + k)) m ++ drop n l)) e

  pub from_next : (f : ℕ → A) (i n : ℕ) (l : List A) → i < n → n ≤ length l → set (filled_from f (suc i) n l) i (f i) ≡ filled_from f i n l
  unfolding filled_from
  from_next f i n l h k =
      let rest = tabulate (λ j. f (suc i + j)) (n - suc i) ++ drop n l in
      let d : n - i ≡ suc (n - suc i) = omega arith in
      let z : i + 0 ≡ i = omega arith in
      let t : tabulate (λ j. f (i + j)) (n - i) ≡ f i ∷ tabulate (λ j. f (suc i + j)) (n - suc i) =
      ap (tabulate (λ j. f (i + j))) d
      ∙ tabulate_cons (λ j. f (i + j)) (n - suc i)
      ∙ ap₂ (λ (x : A) (s : List A). x ∷ s) (ap f z) (tabulate_ext (n - suc i) (λ j l. let e : i + suc j ≡ suc i + j = omega arith in ap f e)) in
      ap (λ (s : List A). set (s ++ rest) i (f i)) (take-suc l i (f i) (omega arith))
      ∙ ap (λ (s : List A). set s i (f i)) (append_snoc (take i l) (get_or l i (f i)) rest)
      ∙ set_at (take i l) (get_or l i (f i)) rest (f i) i (length-take-le i l (omega arith))
      ∙ ap (λ (s : List A). take i l ++ (s ++ drop n l)) (sym t)

  pub length_from : (f : ℕ → A) (i n : ℕ) (l : List A) → i ≤ n → n ≤ length l → length (filled_from f i n l) ≡ length l
  unfolding filled_from
  length_from f i n l h k =
      simp (length-append, length_tabulate, length-drop) (omega (arith, length-take-le i l (omega arith)))

  -- a place below i is as it was
  pub from_below : (f : ℕ → A) (i n : ℕ) (l : List A) (p : ℕ) (d : A) → p < i → i ≤ length l → get_or (filled_from f i n l) p d ≡ get_or l p d
  unfolding filled_from
  from_below f i n l p d h k =
      get_or-append (take i l) (tabulate (λ j. f (i + j)) (n - i) ++ drop n l) d p (omega (arith, length-take-le i l k)) ∙ get_or-take i l p d h

  -- one turn of a loop that stores v at i - 1
  pub from_turn : (f : ℕ → A) (i n : ℕ) (l : List A) {out : List A} {v : A} → out ≡ filled_from f i n l → v ≡ f (i - 1) → 0 < i → i ≤ n → n ≤ length l → set out (i - 1) v ≡ filled_from f (i - 1) n l
  from_turn f i n l eo ev z h k =
      let e : i ≡ suc (i - 1) = omega arith in
      ap₂ (λ (o : List A) (x : A). set o (i - 1) x) (eo ∙ ap (λ (m : ℕ). filled_from f m n l) e) ev ∙ from_next f (i - 1) n l (omega arith) k
