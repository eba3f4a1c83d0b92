-- Laws of a list with another in its first places: one element more is what a loop leaves that gathers into a slice.
use Rattle.std.specs.Prelude.{◌≡◌, ℕ, suc, ◌+◌, ◌<◌, ◌≤◌, length, get_or, take, refl, List, [], ◌∷◌, ◌++◌, drop, set}
use Rattle.std.proofs.Common.{◌∙◌, arith, length-append, length-drop, drop-cons, sym, ap, ap₂, add-one, take_at}
use Rattle.std.proofs.Math.Seq.{set_at, append_snoc}
use Rattle.std.proofs.lemmas.List as list
use Rattle.lists.specs.Fill.{tabulate, filled, overwritten}
use Rattle.lists.specs.FillLaws.{length_tabulate}

module _ {A : Type 0} where
  pub overwritten_none : (l : List A) → l ≡ overwritten [] l
  unfolding overwritten
  overwritten_none l = refl

  pub length_overwritten : (xs l : List A) → length xs ≤ length l → length (overwritten xs l) ≡ length l
  unfolding overwritten
  length_overwritten xs l h = simp (length-append, length-drop) (omega arith)

  -- the first places, as a callee is lent them
  pub take_overwritten : (xs l : List A) (n : ℕ) → length xs ≡ n → take n (overwritten xs l) ≡ xs
  unfolding overwritten
  take_overwritten xs l n e = take_at xs (drop (length xs) l) n e

  -- a list that a rule fills has the rule's table in its first places
  pub filled_overwritten : (f : ℕ → A) (n : ℕ) (l : List A) → filled f n l ≡ overwritten (tabulate f n) l
  unfolding filled overwritten
  filled_overwritten f n l = ap (λ (m : ℕ). tabulate f n ++ drop m l) (sym (length_tabulate f n))

  pub length_push : (xs : List A) (v : A) → length (xs ++ (v ∷ [])) ≡ length xs + 1
  length_push xs v = list.length_push xs v

  -- one turn of a loop that stores v after the n elements so far
  pub overwritten_push : (xs l : List A) (n : ℕ) {out : List A} {v w : A} → out ≡ overwritten xs l → v ≡ w → n ≡ length xs → n < length l → set out n v ≡ overwritten (xs ++ (w ∷ [])) l
  unfolding overwritten
  overwritten_push xs l n {out} {v} {w} eo ev en h =
      ap₂ (λ (o : List A) (x : A). set o n x) (eo ∙ ap (λ (t : List A). xs ++ t) (drop-cons l (length xs) w (omega arith))) ev
      ∙ set_at xs (get_or l (length xs) w) (drop (suc (length xs)) l) w n (sym en)
      ∙ sym (append_snoc xs w (drop (suc (length xs)) l))
      ∙ ap (λ (m : ℕ). (xs ++ (w ∷ [])) ++ drop m l) (sym (length_push xs w ∙ add-one (length xs)))
