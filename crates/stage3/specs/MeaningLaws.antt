-- Stage 3's answer has the meaning that `Meaning` gives it in words (`stage3_means`), and no other answer has (`stage3_only`).
use Rattle.std.specs.Prelude.{◌≡◌, Bool, true, false, cond, List, ◌⊎◌, ℕ, ◌+◌, ◌-◌, ◌*◌, ◌/◌, ◌%◌, ◌<◌, ◌≤◌, ℤ, pos, ◌+ℤ◌, ◌≤ℤ◌, ◌<ℤ◌, refl, ◌&&◌}
use Rattle.std.proofs.Common.{sym, ◌∙◌, subst, inl, inr, ap, ap₂, div-add-mod', arith}
use Rattle.std.proofs.lemmas.Bool.{false≢true}
use Rattle.std.proofs.Math.Decide.{dec_lt}
use Rattle.std.proofs.Math.Arith.{digits_lt}
use Rattle.std.specs.Int.Signed.{lt_z, clash_ℤ}
use Rattle.zint.specs.BoolLaws.{and_left, and_right}
use Rattle.zint.specs.TestLaws as test
use Rattle.zint.specs.OrderLaws as order
use Rattle.silk_macros.specs.Divide.{by_zero}
use Rattle.silk_macros.specs.DivideLaws.{by_zero_is}
use Rattle.silk_tables.specs.Tables.{in_use, offset, greatest_lag}
use Rattle.silk_tables.proofs.TableLaws.{in_use_bounds}
use Rattle.best.specs.Best.{some, Place, none, at, best, BestOf}
use Rattle.best.specs.BestLaws.{some_find, some_none}
use Rattle.best.proofs.BestOfLaws.{best_outcome, BestBelow}
use Rattle.stage3.specs.Pick.{Found, Pair, ZeroDivisor, Choice, first_tried, last_tried, tried, quotient_of, zero_reached3, reached, candidate, score, zero_no, candidate_no, score_no, lag_no, contour_no, pair_count, pair_at, pick}
use Rattle.stage3.specs.Stage3.{cross3, energy3, choice, stage3, Handed}
use Rattle.stage3.specs.Meaning.{Tried, Earlier, points, Candidate, ZeroReached, BestPair, Meaning}
use Rattle.zint.specs.EqualLaws.{eq_z_yes, eq_z_true}
use Rattle.stage3.specs.SearchLaws.{number_lag, number_contour, lag_first, lag_last, contour_used}

-- ---- the proof

tried_of : (fs lag d : ℕ) → first_tried fs lag ≤ d → d ≤ last_tried fs lag → Tried fs lag d
unfolding first_tried last_tried
tried_of fs lag d l h = record { not_below = omega arith; not_above = omega arith; at_least = omega arith; at_most = omega arith }

of_tried_first : (fs lag d : ℕ) → Tried fs lag d → first_tried fs lag ≤ d
unfolding first_tried
of_tried_first fs lag d t = omega arith

of_tried_last : (fs lag d : ℕ) → Tried fs lag d → d ≤ last_tried fs lag
unfolding last_tried
of_tried_last fs lag d t = omega arith

module _ (w : List ℤ) (fs nb cx lag : ℕ) (r : Handed w fs nb cx lag) where
  abbrev X : ℕ → ℕ → ℤ
  X = cross3 w fs nb

  abbrev E : ℕ → ℕ → ℤ
  E = energy3 w fs nb cx lag

  abbrev C : Choice
  C = choice w fs nb cx lag

  some_used : 0 < in_use nb cx
  some_used = let u = in_use_bounds r.settings in omega arith

  -- a pair and its number
  abbrev number : ℕ → ℕ → ℕ
  number d j = (d - first_tried fs lag) * in_use nb cx + j

  number_below : (d j : ℕ) → Tried fs lag d → j < in_use nb cx → number d j < pair_count C
  unfolding pair_count tried
  number_below d j t h =
      let f = of_tried_first fs lag d t in
      let l = of_tried_last fs lag d t in
      digits_lt {q = d - first_tried fs lag} {m = last_tried fs lag + 1 - first_tried fs lag} {r = j} {c = in_use nb cx} (omega arith) h

  number_back : (p : ℕ) → number (lag_no C p) (contour_no C p) ≡ p
  unfolding lag_no contour_no
  number_back p =
      let e : first_tried fs lag + p / in_use nb cx - first_tried fs lag ≡ p / in_use nb cx = omega arith in
      ap (λ (x : ℕ). x * in_use nb cx + p % in_use nb cx) e ∙ div-add-mod' p (in_use nb cx)

  earlier_number : (d' j' d j : ℕ) → Tried fs lag d' → j' < in_use nb cx → Earlier d' j' d j → number d' j' < number d j
  earlier_number d' j' d j t h (inl l) =
      let f = of_tried_first fs lag d' t in
      let m = digits_lt {q = d' - first_tried fs lag} {m = d - first_tried fs lag} {r = j'} {c = in_use nb cx} (omega arith) h in
      omega arith
  earlier_number d' j' d j t h (inr (e, l)) =
      subst (λ (x : ℕ). number d' j' < number x j) e (omega arith)

  lag_back : (d j : ℕ) → Tried fs lag d → j < in_use nb cx → lag_no C (number d j) ≡ d
  lag_back d j t h = number_lag C d j (of_tried_first fs lag d t) h

  contour_back : (d j : ℕ) → Tried fs lag d → j < in_use nb cx → contour_no C (number d j) ≡ j
  contour_back d j t h = number_contour C d j (of_tried_first fs lag d t) h

  score_back : (d j : ℕ) → Tried fs lag d → j < in_use nb cx → score_no C (number d j) ≡ points w fs nb cx lag d j
  score_back d j t h = ap₂ (score C) (lag_back d j t h) (contour_back d j t h)

  -- tests and words
  cand_of : (d j : ℕ) → Candidate w fs nb cx lag d j → candidate_no C (number d j) ≡ true
  unfolding candidate
  cand_of d j c =
      ap₂ (candidate C) (lag_back d j c.tried c.used) (contour_back d j c.tried c.used)
      ∙ ap₂ ◌&&◌ (order.lt_yes c.positive) (order.le_yes c.within)

  module _ (p : ℕ) (l : p < pair_count C) where
    abbrev d : ℕ
    d = lag_no C p

    abbrev j : ℕ
    j = contour_no C p

    is_tried : Tried fs lag d
    is_tried = tried_of fs lag d (lag_first C some_used p l) (lag_last C some_used p l)

    is_used : j < in_use nb cx
    is_used = contour_used C some_used p l

    of_cand : candidate_no C p ≡ true → Candidate w fs nb cx lag d j
    unfolding candidate
    of_cand e =
        record {
          tried = is_tried;
          used = is_used;
          positive = test.lt_true (pos 0) (X d j) (and_left (lt_z (pos 0) (X d j)) (reached fs nb d j) e);
          within = test.le_true (pos d +ℤ offset nb 0 j) (pos (greatest_lag fs)) (and_right (lt_z (pos 0) (X d j)) (reached fs nb d j) e);
        }

    of_zero : zero_no C p ≡ true → ZeroReached w fs nb cx lag d j
    unfolding zero_reached3
    of_zero e =
        record {
          tried = is_tried;
          used = is_used;
          positive = test.lt_true (pos 0) (X d j) (and_left (lt_z (pos 0) (X d j)) (by_zero (quotient_of (X d j) (E d j))) e);
          no_energy = eq_z_true (E d j) (pos 0) (sym (by_zero_is (X d j) (E d j) (pos 14)) ∙ and_right (lt_z (pos 0) (X d j)) (by_zero (quotient_of (X d j) (E d j))) e);
        }

  zero_of : (d j : ℕ) → ZeroReached w fs nb cx lag d j → zero_no C (number d j) ≡ true
  unfolding zero_reached3
  zero_of d j z =
      ap₂ (zero_reached3 C) (lag_back d j z.tried z.used) (contour_back d j z.tried z.used)
      ∙ ap₂ ◌&&◌ (order.lt_yes z.positive) (by_zero_is (X d j) (E d j) (pos 14) ∙ eq_z_yes z.no_energy)

  -- the pair at the best place
  best_words : (p : ℕ) → BestOf (pair_count C) (candidate_no C) (score_no C) p
      → BestPair w fs nb cx lag (lag_no C p) (contour_no C p)
  best_words p b =
      record {
        candidate = of_cand p b.within b.candidate;
        highest = λ d' j' c. subst (λ (x : ℤ). x ≤ℤ score_no C p) (score_back d' j' c.tried c.used)
            (b.least_high (number d' j') (number_below d' j' c.tried c.used) (cand_of d' j' c));
        first = λ d' j' c e. subst (λ (x : ℤ). x <ℤ score_no C p) (score_back d' j' c.tried c.used)
            (b.first (number d' j') (subst (λ (x : ℕ). number d' j' < x) (number_back p) (earlier_number d' j' _ _ c.tried c.used e)) (cand_of d' j' c));
      }

  no_zero : some (pair_count C) (zero_no C) ≡ false → (d' j' : ℕ) → ZeroReached w fs nb cx lag d' j' → ⊥
  no_zero e d' j' z = false≢true (sym (some_none (pair_count C) (zero_no C) e (number d' j') (number_below d' j' z.tried z.used)) ∙ zero_of d' j' z)

  by_place : (a : Place) → BestBelow (pair_count C) (candidate_no C) (score_no C) a
      → some (pair_count C) (zero_no C) ≡ false → Meaning w fs nb cx lag (pair_at C a)
  by_place none o e =
      (no_zero e, inr (λ d' j' c. false≢true (sym (o (number d' j') (number_below d' j' c.tried c.used)) ∙ cand_of d' j' c), refl, refl))
  by_place (at p) o e = (no_zero e, inl (best_words p o))

  by_zero_divisor : (t : Bool) → some (pair_count C) (zero_no C) ≡ t
      → Meaning w fs nb cx lag (cond t ZeroDivisor (pair_at C (best (pair_count C) (candidate_no C) (score_no C))))
  by_zero_divisor true e =
      let q = some_find (pair_count C) (zero_no C) e in
      (lag_no C q.0, contour_no C q.0, of_zero q.0 q.1 q.2)
  by_zero_divisor false e = by_place (best (pair_count C) (candidate_no C) (score_no C)) (best_outcome (pair_count C) (candidate_no C) (score_no C)) e

  pub stage3_means : Meaning w fs nb cx lag (stage3 w fs nb cx lag)
  unfolding stage3 pick
  stage3_means = by_zero_divisor (some (pair_count C) (zero_no C)) refl

-- ---- no other answer has that meaning

apart : (d j d' j' : ℕ) → Earlier d j d' j' ⊎ (Earlier d' j' d j ⊎ ((d ≡ d') × (j ≡ j')))
apart d j d' j' = by_lag (dec_lt d d') (dec_lt d' d) (dec_lt j j') (dec_lt j' j)
  where
    by_lag : Dec (d < d') → Dec (d' < d) → Dec (j < j') → Dec (j' < j) → Earlier d j d' j' ⊎ (Earlier d' j' d j ⊎ ((d ≡ d') × (j ≡ j')))
    by_lag (yes l) m a b = inl (inl l)
    by_lag (no l) (yes m) a b = inr (inl (inl m))
    by_lag (no l) (no m) (yes a) b = inl (inr (omega arith, a))
    by_lag (no l) (no m) (no a) (yes b) = inr (inl (inr (omega arith, b)))
    by_lag (no l) (no m) (no a) (no b) = inr (inr (omega arith, omega arith))

module _ (w : List ℤ) (fs nb cx lag : ℕ) where
  one_best : (d j d' j' : ℕ) → BestPair w fs nb cx lag d j → BestPair w fs nb cx lag d' j' → Pair d j ≡ Pair d' j'
  one_best d j d' j' b c = by_order (apart d j d' j')
    where
      by_order : Earlier d j d' j' ⊎ (Earlier d' j' d j ⊎ ((d ≡ d') × (j ≡ j'))) → Pair d j ≡ Pair d' j'
      by_order (inl e) = clash_ℤ (c.first d j b.candidate e) (b.highest d' j' c.candidate)
      by_order (inr (inl e)) = clash_ℤ (b.first d' j' c.candidate e) (c.highest d j b.candidate)
      by_order (inr (inr (e, f))) = ap₂ Pair e f

  one_meaning : (x y : Found) → Meaning w fs nb cx lag x → Meaning w fs nb cx lag y → x ≡ y
  one_meaning (Pair d j) (Pair d' j') (z, inl b) (z', inl b') = one_best d j d' j' b b'
  one_meaning (Pair d j) (Pair d' j') (z, inl b) (z', inr (n, e, f)) = absurd (n d j b.candidate)
  one_meaning (Pair d j) (Pair d' j') (z, inr (n, e, f)) (z', inl b') = absurd (n d' j' b'.candidate)
  one_meaning (Pair d j) (Pair d' j') (z, inr (n, e, f)) (z', inr (n', e', f')) = ap₂ Pair (e ∙ sym e') (f ∙ sym f')
  one_meaning (Pair d j) ZeroDivisor (z, m) (d', j', y) = absurd (z d' j' y)
  one_meaning ZeroDivisor (Pair d j) (d', j', y) (z, m) = absurd (z d' j' y)
  one_meaning ZeroDivisor ZeroDivisor m n = refl

  pub stage3_only : Handed w fs nb cx lag → (x : Found) → Meaning w fs nb cx lag x → x ≡ stage3 w fs nb cx lag
  stage3_only r x m = one_meaning x (stage3 w fs nb cx lag) m (stage3_means w fs nb cx lag r)
