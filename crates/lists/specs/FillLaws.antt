-- Laws of lists whose first places are given by a rule, which is what a loop that stores one element a turn leaves.
use Rattle.std.specs.Prelude.{◌≡◌, take, set, refl, List, [], ◌∷◌, ◌++◌, ℕ, zero, suc, ◌+◌, ◌-◌, ◌<◌, ◌≤◌, length, get_or, drop}
use Rattle.std.proofs.Common.{◌∙◌, add-zero, append_assoc, drop_at, drop-drop, add-one, length-drop, length-take-le, get_or-take, drop_of_length-le, ext_get_or, sym, ap, ap₂, append-nil, arith, length-append, drop-cons, take_at, get_or-append-add, get_or-drop}
use Rattle.std.proofs.Math.Decide.{dec_lt}
use Rattle.std.proofs.Math.ListN.{get_or-append}
use Rattle.std.proofs.Math.Seq.{get_or_at, append_snoc}
use Rattle.std.proofs.lemmas.List.{set_at, take_rest}
use Rattle.lists.specs.Fill.{tabulate, filled}

module _ {A : Type 0} where
  pub length_tabulate : (f : ℕ → A) (n : ℕ) → length (tabulate f n) ≡ n
  unfolding tabulate
  length_tabulate f zero = refl
  length_tabulate f (suc n) = length-append (tabulate f n) (f n ∷ []) ∙ omega (arith, length_tabulate f n)

  pub filled_none : (f : ℕ → A) (l : List A) → l ≡ filled f 0 l
  unfolding filled tabulate
  filled_none f l = refl

  -- one store more
  pub filled_next : (f : ℕ → A) (n : ℕ) (l : List A) → n < length l → set (filled f n l) n (f n) ≡ filled f (n + 1) l
  unfolding filled tabulate
  filled_next f n l h =
      rw (add-one, drop-cons l n (f n))
      (set_at (tabulate f n) (get_or l n (f n)) (drop (suc n) l) (f n) n (length_tabulate f n) ∙ sym (append_snoc (tabulate f n) (f n) (drop (suc n) l)))

  pub length_filled : (f : ℕ → A) (n : ℕ) (l : List A) → n ≤ length l → length (filled f n l) ≡ length l
  unfolding filled
  length_filled f n l h = simp (length-append, length_tabulate, length-drop) (omega arith)

  -- what a place holds: a filled one, and a later one
  pub get_d_tabulate : (f : ℕ → A) (n k : ℕ) (d : A) → k < n → get_or (tabulate f n) k d ≡ f k
  unfolding tabulate
  get_d_tabulate f zero k d h = absurd (omega arith)
  get_d_tabulate f (suc n) k d h = by_case (λ l. get_d_tabulate f n k d l) (dec_lt k n)
    where
      by_case : (k < n → get_or (tabulate f n) k d ≡ f k) → Dec (k < n) → get_or (tabulate f n ++ (f n ∷ [])) k d ≡ f k
      by_case rec (yes l) = get_or-append (tabulate f n) (f n ∷ []) d k (omega (arith, length_tabulate f n)) ∙ rec l
      by_case rec (no g) =
          let e : n ≡ k = omega arith in
          get_or_at (tabulate f n) (f n) [] d k (length_tabulate f n ∙ e) ∙ ap f e

  pub get_or-filled : (f : ℕ → A) (n : ℕ) (l : List A) (k : ℕ) (d : A) → k < n → get_or (filled f n l) k d ≡ f k
  unfolding filled
  get_or-filled f n l k d h = get_or-append (tabulate f n) (drop n l) d k (omega (arith, length_tabulate f n)) ∙ get_d_tabulate f n k d h

  pub get_d_after : (f : ℕ → A) (n : ℕ) (l : List A) (k : ℕ) (d : A) → n ≤ k → get_or (filled f n l) k d ≡ get_or l k d
  unfolding filled
  get_d_after f n l k d h =
      let e : k ≡ length (tabulate f n) + (k - n) = omega (arith, length_tabulate f n) in
      let m : n + (k - n) ≡ k = omega arith in
      ap (λ j. get_or (tabulate f n ++ drop n l) j d) e
      ∙ get_or-append-add (tabulate f n) (drop n l) (k - n) d
      ∙ get_or-drop n l (k - n) d
      ∙ ap (λ j. get_or l j d) m

  -- a list filled to its end, and the filled part of one
  pub filled_all : (f : ℕ → A) (n : ℕ) (l : List A) → length l ≤ n → filled f n l ≡ tabulate f n
  unfolding filled
  filled_all f n l h = ap (λ (t : List A). tabulate f n ++ t) (drop_of_length-le l h) ∙ append-nil (tabulate f n)

  pub take_filled : (f : ℕ → A) (n : ℕ) (l : List A) → take n (filled f n l) ≡ tabulate f n
  unfolding filled
  take_filled f n l = take_at (tabulate f n) (drop n l) n (length_tabulate f n)

  -- a list is the table of its elements
  pub tabulate_is : (f : ℕ → A) (n : ℕ) (l : List A) (d : A) → n ≡ length l → ((k : ℕ) → k < n → f k ≡ get_or l k d) → tabulate f n ≡ l
  tabulate_is f n l d e h =
      ext_get_or d (tabulate f n) l (length_tabulate f n ∙ e) (λ k m. let b : k < n = omega (arith, length_tabulate f n) in get_d_tabulate f n k d b ∙ h k b)

  -- the first n elements of another list, copied
  pub filled_copied : (xs l : List A) (n : ℕ) (d : A) → n ≤ length xs → take n xs ++ drop n l ≡ filled (λ (k : ℕ). get_or xs k d) n l
  unfolding filled
  filled_copied xs l n d h =
      ap (λ (t : List A). t ++ drop n l) (sym (tabulate_is (λ (k : ℕ). get_or xs k d) n (take n xs) d (sym (length-take-le n xs h)) (λ k b. sym (get_or-take n xs k d b))))

  -- a table in two parts, and m places more, written at once
  tabulate_join : (f : ℕ → A) (n m : ℕ) → tabulate f n ++ tabulate (λ (j : ℕ). f (n + j)) m ≡ tabulate f (n + m)
  unfolding tabulate
  tabulate_join f n zero = append-nil (tabulate f n) ∙ ap (tabulate f) (sym (add-zero n))
  tabulate_join f n (suc m) =
      let e : suc (n + m) ≡ n + suc m = omega arith in
      sym (append_assoc (tabulate f n) (tabulate (λ (j : ℕ). f (n + j)) m) (f (n + m) ∷ [])) ∙ ap (λ (t : List A). t ++ (f (n + m) ∷ [])) (tabulate_join f n m) ∙ ap (tabulate f) e

  pub filled_more : (f : ℕ → A) (n m k : ℕ) (l : List A) {out part : List A} → out ≡ filled f n l → part ≡ tabulate (λ (j : ℕ). f (n + j)) m → k ≡ m
      → take n out ++ (part ++ drop k (drop n out)) ≡ filled f (n + m) l
  unfolding filled
  filled_more f n m k l {out} {part} eo ep ek =
      ap₂ (λ (t u : List A). t ++ (part ++ drop k u)) (ap (take n) eo ∙ take_at (tabulate f n) (drop n l) n (length_tabulate f n)) (ap (drop n) eo ∙ drop_at (tabulate f n) (drop n l) n (length_tabulate f n))
      ∙ ap₂ (λ (t : List A) (i : ℕ). tabulate f n ++ (t ++ drop i (drop n l))) ep ek
      ∙ sym (append_assoc (tabulate f n) (tabulate (λ (j : ℕ). f (n + j)) m) (drop m (drop n l)))
      ∙ ap₂ (λ (t u : List A). t ++ u) (tabulate_join f n m) (drop-drop m n l)

  -- one turn of a loop that stores v at n
  pub filled_turn : (f : ℕ → A) (n : ℕ) (l : List A) {out : List A} {v : A} → out ≡ filled f n l → v ≡ f n → n < length l → set out n v ≡ filled f (n + 1) l
  unfolding filled tabulate
  filled_turn f n l eo ev h =
      ap₂ (λ (o : List A) (a : A). set o n a) eo ev
      ∙ rw (add-one, drop-cons l n (f n))
      (set_at (tabulate f n) (get_or l n (f n)) (drop (suc n) l) (f n) n (length_tabulate f n) ∙ sym (append_snoc (tabulate f n) (f n) (drop (suc n) l)))

  -- the part `&l[i..]`, as a callee is handed it
  pub tail_part : (i : ℕ) (l : List A) → take (length l - i) (drop i l) ≡ drop i l
  tail_part i l = take_rest l i

  -- rules that agree below n give the same list
  pub tabulate_ext : {f g : ℕ → A} (n : ℕ) → ((k : ℕ) → k < n → f k ≡ g k) → tabulate f n ≡ tabulate g n
  unfolding tabulate
  tabulate_ext zero h = refl
  tabulate_ext (suc n) h = ap₂ (λ (t : List A) (a : A). t ++ (a ∷ [])) (tabulate_ext n (λ k l. h k (omega arith))) (h n (omega arith))

  pub filled_ext : {f g : ℕ → A} (n : ℕ) (l : List A) → ((k : ℕ) → k < n → f k ≡ g k) → filled f n l ≡ filled g n l
  unfolding filled
  filled_ext n l h = ap (λ (t : List A). t ++ drop n l) (tabulate_ext n h)
