-- `best` is the one number that is best by comparison, and there is one unless there is no candidate. `Search` is the state of a search from the front.
use Rattle.std.proofs.Common.{sym, ◌∙◌, subst, true≢false, ⊎_elim, arith, add-one, below_more, ◌≡◌, Bool, ◌||◌, ℕ, zero, suc, ◌+◌, ◌<◌, ℤ, ◌≤ℤ◌, ◌<ℤ◌, refl, ap, ap₂, true, false, not, ◌&&◌}
use Rattle.std.specs.Int.Signed.{le_z, clash_ℤ, ≤ℤ_refl}
use Rattle.zint.specs.OrderLaws.{order, <ℤ_weak, ≤ℤ-<ℤ_trans, le_yes, le_no}
use Rattle.best.specs.Best.{every, Place, none, at, highest, best, BestOf}
use Rattle.best.specs.BestLaws.{every_true, every_false, first_at, first_none}

-- ---- `best`

module _ (n : ℕ) (cand : ℕ → Bool) (score : ℕ → ℤ) where
  highest_true : (p : ℕ) → BestOf n cand score p → highest n cand score p ≡ true
  unfolding highest
  highest_true p b = ap₂ ◌&&◌ b.candidate (every_true n _ (λ q l. by (cand q) q l refl))
    where
      by : (t : Bool) (q : ℕ) → q < n → cand q ≡ t → (not (cand q) || le_z (score q) (score p)) ≡ true
      by true q l e = ap (λ (t : Bool). not t || le_z (score q) (score p)) e ∙ le_yes (b.least_high q l e)
      by false q l e = ap (λ (t : Bool). not t || le_z (score q) (score p)) e

  -- a number that a candidate outdoes
  highest_false : (p q : ℕ) → p < n → cand p ≡ true → (cand q ≡ true → score q <ℤ score p) → highest n cand score q ≡ false
  unfolding highest
  highest_false p q l e h = by (cand q) refl
    where
      by : (t : Bool) → cand q ≡ t → (cand q && every n (λ r. not (cand r) || le_z (score r) (score q))) ≡ false
      by true c =
          ap₂ ◌&&◌ c (every_false n _ p l (ap₂ (λ (t u : Bool). not t || u) e (le_no (h c))))
      by false c = ap (λ (t : Bool). t && every n (λ r. not (cand r) || le_z (score r) (score q))) c

  pub best_at : (p : ℕ) → BestOf n cand score p → best n cand score ≡ at p
  unfolding best
  best_at p b =
      first_at 0 n (highest n cand score) p (omega arith) (omega (arith, b.within)) (highest_true p b) (λ q l m. highest_false p q b.within b.candidate (b.first q m))

  pub best_none : ((q : ℕ) → q < n → cand q ≡ false) → best n cand score ≡ none
  unfolding best highest
  best_none h = first_none 0 n _ (λ q l u. ap (λ (t : Bool). t && every n (λ r. not (cand r) || le_z (score r) (score q))) (h q (omega arith)))

-- what is known of a place after n numbers
abbrev pub BestBelow : ℕ → (ℕ → Bool) → (ℕ → ℤ) → Place → Type 0
BestBelow n cand score none = (q : ℕ) → q < n → cand q ≡ false
BestBelow n cand score (at p) = BestOf n cand score p

-- the score to beat
abbrev pub bar_of : ℤ → (ℕ → ℤ) → Place → ℤ
bar_of start score none = start
bar_of start score (at p) = score p

pub outcome_best : (n : ℕ) (cand : ℕ → Bool) (score : ℕ → ℤ) (a : Place) → BestBelow n cand score a → best n cand score ≡ a
outcome_best n cand score none o = best_none n cand score o
outcome_best n cand score (at p) o = best_at n cand score p o

-- ---- one number more

module _ (cand : ℕ → Bool) (score : ℕ → ℤ) (n : ℕ) where
  pub outcome_skip : (a : Place) → BestBelow n cand score a → cand n ≡ false → BestBelow (n + 1) cand score a
  outcome_skip none o e = below_more (λ q. cand q ≡ false) n o e
  outcome_skip (at p) o e =
      record {
        within = omega (arith, o.within);
        candidate = o.candidate;
        least_high = below_more (λ q. cand q ≡ true → score q ≤ℤ score p) n o.least_high (λ t. absurd (true≢false (sym t ∙ e)));
        first = o.first;
      }

  -- the first candidate
  pub outcome_first : ((q : ℕ) → q < n → cand q ≡ false) → cand n ≡ true → BestOf (n + 1) cand score n
  outcome_first o e =
      record {
        within = omega arith;
        candidate = e;
        least_high = below_more (λ q. cand q ≡ true → score q ≤ℤ score n) n (λ q l t. absurd (true≢false (sym t ∙ o q l))) (λ t. ≤ℤ_refl (score n));
        first = λ q l t. absurd (true≢false (sym t ∙ o q l));
      }

  -- one that is above the best so far, and one that is not
  pub outcome_over : (p : ℕ) → BestOf n cand score p → cand n ≡ true → score p <ℤ score n → BestOf (n + 1) cand score n
  outcome_over p o e h =
      let lower : (q : ℕ) → q < n → cand q ≡ true → score q <ℤ score n = λ q l t. ≤ℤ-<ℤ_trans (o.least_high q l t) h in
      record {
        within = omega arith;
        candidate = e;
        least_high = below_more (λ q. cand q ≡ true → score q ≤ℤ score n) n (λ q l t. <ℤ_weak (lower q l t)) (λ t. ≤ℤ_refl (score n));
        first = lower;
      }

  pub outcome_under : (p : ℕ) → BestOf n cand score p → score n ≤ℤ score p → BestOf (n + 1) cand score p
  outcome_under p o h =
      record {
        within = omega (arith, o.within);
        candidate = o.candidate;
        least_high = below_more (λ q. cand q ≡ true → score q ≤ℤ score p) n o.least_high (λ t. h);
        first = o.first;
      }

  -- the same with a start that is below every candidate
  pub outcome_better : (start : ℤ) (a : Place) → BestBelow n cand score a → cand n ≡ true → bar_of start score a <ℤ score n → BestBelow (n + 1) cand score (at n)
  outcome_better start none o e h = outcome_first o e
  outcome_better start (at p) o e h = outcome_over p o e h

  pub outcome_kept : (start : ℤ) (a : Place) → BestBelow n cand score a → start <ℤ score n → score n ≤ℤ bar_of start score a → BestBelow (n + 1) cand score a
  outcome_kept start none o s h = clash_ℤ s h
  outcome_kept start (at p) o s h = outcome_under p o h

-- there is always an outcome
one_more : (cand : ℕ → Bool) (score : ℕ → ℤ) (n : ℕ) → (a : Place) → BestBelow n cand score a → cand n ≡ true → (a : Place) × BestBelow (n + 1) cand score a
one_more cand score n none o e = (at n, outcome_first cand score n o e)
one_more cand score n (at p) o e =
    ⊎_elim (λ (h : score p <ℤ score n). (at n, outcome_over cand score n p o e h))
    (λ (h : score n ≤ℤ score p). (at p, outcome_under cand score n p o h))
    (order (score p) (score n))

pub outcome_of : (n : ℕ) (cand : ℕ → Bool) (score : ℕ → ℤ) → (a : Place) × BestBelow n cand score a
outcome_of zero cand score = (none, λ q l. absurd (omega arith))
outcome_of (suc n) cand score = rw (← add-one n) (by (outcome_of n cand score) (cand n) refl)
  where
    by : (a : Place) × BestBelow n cand score a → (t : Bool) → cand n ≡ t → (a : Place) × BestBelow (n + 1) cand score a
    by o true e = one_more cand score n o.0 o.1 e
    by o false e = (o.0, outcome_skip cand score n o.0 o.1 e)

-- so what `best` answers is best by comparison
pub best_outcome : (n : ℕ) (cand : ℕ → Bool) (score : ℕ → ℤ) → BestBelow n cand score (best n cand score)
best_outcome n cand score =
    let o = outcome_of n cand score in
    subst (BestBelow n cand score) (sym (outcome_best n cand score o.0 o.1)) o.1

-- there is only one
pub best_unique : (n : ℕ) (cand : ℕ → Bool) (score : ℕ → ℤ) (p q : ℕ) → BestOf n cand score p → BestOf n cand score q → at p ≡ at q
best_unique n cand score p q b c = sym (best_at n cand score p b) ∙ best_at n cand score q c

-- ---- the state of a search from the front: the score to beat and the place so far, after n numbers

pub record Search (start : ℤ) (cand : ℕ → Bool) (score : ℕ → ℤ) (n : ℕ) (top : ℤ) (a : Place) : Type 0 where
  pub bar : top ≡ bar_of start score a
  pub outcome : BestBelow n cand score a

module _ {start : ℤ} {cand : ℕ → Bool} {score : ℕ → ℤ} where
  pub search_start : Search start cand score 0 start none
  search_start = record { bar = refl; outcome = λ q l. absurd (omega arith) }

  pub search_skip : {n : ℕ} {top : ℤ} {a : Place} → Search start cand score n top a → cand n ≡ false → Search start cand score (n + 1) top a
  search_skip {n} {top} {a} s e = record { bar = s.bar; outcome = outcome_skip cand score n a s.outcome e }

  pub search_better : {n : ℕ} {top : ℤ} {a : Place} → Search start cand score n top a → cand n ≡ true → top <ℤ score n → Search start cand score (n + 1) (score n) (at n)
  search_better {n} {top} {a} s e h =
      record { bar = refl; outcome = outcome_better cand score n start a s.outcome e (subst (λ (t : ℤ). t <ℤ score n) s.bar h) }

  pub search_kept : {n : ℕ} {top : ℤ} {a : Place} → Search start cand score n top a → start <ℤ score n → score n ≤ℤ top → Search start cand score (n + 1) top a
  search_kept {n} {top} {a} s l h =
      record { bar = s.bar; outcome = outcome_kept cand score n start a s.outcome l (subst (λ (t : ℤ). score n ≤ℤ t) s.bar h) }

  pub search_best : {n : ℕ} {top : ℤ} {a : Place} → Search start cand score n top a → best n cand score ≡ a
  search_best {n} {top} {a} s = outcome_best n cand score a s.outcome

-- ---- scores that agree below n

outcome_ext : (n : ℕ) (cand cand' : ℕ → Bool) (score score' : ℕ → ℤ) → ((q : ℕ) → q < n → cand q ≡ cand' q) → ((q : ℕ) → q < n → score q ≡ score' q)
    → (a : Place) → BestBelow n cand score a → BestBelow n cand' score' a
outcome_ext n cand cand' score score' e f none o = λ q l. sym (e q l) ∙ o q l
outcome_ext n cand cand' score score' e f (at p) o =
    record {
      within = o.within;
      candidate = sym (e p o.within) ∙ o.candidate;
      least_high = λ q l t. subst (λ (x : ℤ). score' q ≤ℤ x) (f p o.within) (subst (λ (x : ℤ). x ≤ℤ score p) (f q l) (o.least_high q l (e q l ∙ t)));
      first = λ q l t.
          let m : q < n = omega (arith, o.within) in
          subst (λ (x : ℤ). score' q <ℤ x) (f p o.within) (subst (λ (x : ℤ). x <ℤ score p) (f q m) (o.first q l (e q m ∙ t)));
    }

pub best_ext : (n : ℕ) (cand cand' : ℕ → Bool) (score score' : ℕ → ℤ) → ((q : ℕ) → q < n → cand q ≡ cand' q) → ((q : ℕ) → q < n → score q ≡ score' q)
    → best n cand score ≡ best n cand' score'
best_ext n cand cand' score score' e f =
    sym (outcome_best n cand' score' (best n cand score) (outcome_ext n cand cand' score score' e f (best n cand score) (best_outcome n cand score)))
