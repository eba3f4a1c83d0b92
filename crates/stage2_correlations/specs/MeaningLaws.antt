-- The listed and the measured lags are those of `Meaning`'s words; examples of them; at most 24 lags are listed.
use Rattle.std.specs.Prelude.{◌≡◌, Bool, ◌&&◌, ◌||◌, cond, List, [], ◌∷◌, refl, true, false, ℕ, zero, suc, ◌+◌, ◌-◌, ◌*◌, ◌≤◌, min, leb, length, get_or}
use Rattle.std.proofs.Common.{ap, ap₂, ◌∙◌, length-append, arith, leb-true}
use Rattle.std.proofs.lemmas.Bool.{false≢true}
use Rattle.best.specs.Best.{some}
use Rattle.best.specs.BestLaws.{some_find}
use Rattle.stage2_correlations.specs.Marks.{mark_near, near, marked, listed, measured, Kept}
use Rattle.stage2_correlations.specs.Meaning.{Marked, Listed, Measured, passing}
use Rattle.zint.specs.BoolLaws.{and_left, and_right}
use Rattle.stage2_correlations.specs.MarkLaws.{mark_yes, near_yes, inside}

-- ---- the marks and the words

module _ (kept : List ℕ) (below above low high d : ℕ) where
  of_marked : Marked kept below above low high d → marked kept below above low high d ≡ true
  unfolding marked
  of_marked m =
      inside low high d (near kept below above d) m.at_least m.at_most
      ∙ near_yes kept below above d m.which m.is_kept (mark_yes kept below above d m.which m.not_below m.not_above)

  to_marked : marked kept below above low high d ≡ true → Marked kept below above low high d
  unfolding marked near mark_near
  to_marked e =
      let r = and_right (leb low d) (leb d high && near kept below above d) e in
      let q = some_find (length kept) (mark_near kept below above d) (and_right (leb d high) (near kept below above d) r) in
      let v = 2 * get_or kept q.0 0 in
      record {
        at_least = leb-true low d (and_left (leb low d) (leb d high && near kept below above d) e);
        at_most = leb-true d high (and_left (leb d high) (near kept below above d) r);
        which = q.0;
        is_kept = q.1;
        not_below = leb-true v (d + below) (and_left (leb v (d + below)) (leb d (v + above)) q.2);
        not_above = leb-true d (v + above) (and_right (leb v (d + below)) (leb d (v + above)) q.2);
      }

pub listed_means : (kept : List ℕ) (d : ℕ) → (listed kept d ≡ true → Listed kept d) × (Listed kept d → listed kept d ≡ true)
unfolding listed
listed_means kept d = (to_marked kept 1 1 16 143 d, of_marked kept 1 1 16 143 d)

pub measured_means : (kept : List ℕ) (d : ℕ) → (measured kept d ≡ true → Measured kept d) × (Measured kept d → measured kept d ≡ true)
unfolding measured
measured_means kept d = (to_marked kept 2 3 14 144 d, of_marked kept 2 3 14 144 d)

-- ---- what the kept lags 8, 40 and 72 list and measure

pub marks_of_8 : (passing 200 (listed (8 ∷ [])) ≡ 16 ∷ 17 ∷ []) × (passing 200 (measured (8 ∷ [])) ≡ 14 ∷ 15 ∷ 16 ∷ 17 ∷ 18 ∷ 19 ∷ [])
unfolding passing listed measured marked near mark_near some
marks_of_8 = (refl, refl)

pub marks_of_40 : (passing 200 (listed (40 ∷ [])) ≡ 79 ∷ 80 ∷ 81 ∷ []) × (passing 200 (measured (40 ∷ [])) ≡ 78 ∷ 79 ∷ 80 ∷ 81 ∷ 82 ∷ 83 ∷ [])
unfolding passing listed measured marked near mark_near some
marks_of_40 = (refl, refl)

pub marks_of_72 : (passing 200 (listed (72 ∷ [])) ≡ 143 ∷ []) × (passing 200 (measured (72 ∷ [])) ≡ 142 ∷ 143 ∷ 144 ∷ [])
unfolding passing listed measured marked near mark_near some
marks_of_72 = (refl, refl)

-- ---- no more than 24 lags are listed

-- one number more
abbrev one : Bool → ℕ
one true = 1
one false = 0

one_more : (n : ℕ) (t : ℕ → Bool) → length (passing (suc n) t) ≡ length (passing n t) + one (t n)
unfolding passing
one_more n t = length-append (passing n t) (cond (t n) (n ∷ []) []) ∙ ap (λ (k : ℕ). length (passing n t) + k) (by (t n))
  where
    by : (b : Bool) → length (cond b (n ∷ []) []) ≡ one b
    by true = refl
    by false = refl

-- a test that says less passes no fewer
fewer : (n : ℕ) (s t : ℕ → Bool) → ((d : ℕ) → s d ≡ true → t d ≡ true) → length (passing n s) ≤ length (passing n t)
unfolding passing
fewer zero s t h = omega arith
fewer (suc n) s t h = omega (arith, one_more n s, one_more n t, fewer n s t h, by (s n) (t n) (h n))
  where
    by : (a b : Bool) → (a ≡ true → b ≡ true) → one a ≤ one b
    by true true k = omega arith
    by true false k = absurd (false≢true (k refl))
    by false b k = omega arith

-- one of two tests
either : (n : ℕ) (s t : ℕ → Bool) → length (passing n (λ d. s d || t d)) ≤ length (passing n s) + length (passing n t)
unfolding passing
either zero s t = omega arith
either (suc n) s t = omega (arith, one_more n (λ d. s d || t d), one_more n s, one_more n t, either n s t, by (s n) (t n))
  where
    by : (a b : Bool) → one (a || b) ≤ one a + one b
    by true b = omega arith
    by false b = omega arith

-- one kept lag lists three at most: of the numbers below n those from v - 1 to v + 1
in_window : (v n c o : ℕ) → c ≤ min n (v + 2) - (v - 1) → o ≤ 1 → v ≤ n + 1 → n ≤ v + 1 → c + o ≤ min (suc n) (v + 2) - (v - 1)
in_window v n c o h k l m = omega arith

outside : (v n c : ℕ) → c ≤ min n (v + 2) - (v - 1) → c + 0 ≤ min (suc n) (v + 2) - (v - 1)
outside v n c h = omega arith

and_at : (a b : Bool) → one (a && b) ≤ 1
and_at true true = omega arith
and_at true false = omega arith
and_at false b = omega arith

module _ (v : ℕ) where
  abbrev window : ℕ → Bool
  window d = leb v (d + 1) && leb d (v + 1)

  few_in : (n : ℕ) → length (passing n window) ≤ min n (v + 2) - (v - 1)
  unfolding passing
  few_in zero = omega arith
  few_in (suc n) = rw (one_more n window) (by (few_in n) (leb v (n + 1)) (leb n (v + 1)) refl refl)
    where
      by : length (passing n window) ≤ min n (v + 2) - (v - 1) → (a b : Bool) → leb v (n + 1) ≡ a → leb n (v + 1) ≡ b
          → length (passing n window) + one (window n) ≤ min (suc n) (v + 2) - (v - 1)
      by h true true p q = in_window v n (length (passing n window)) (one (window n)) h (and_at (leb v (n + 1)) (leb n (v + 1))) (leb-true v (n + 1) p) (leb-true n (v + 1) q)
      by h true false p q = rw (ap₂ (λ (a b : Bool). one (a && b)) p q) (outside v n (length (passing n window)) h)
      by h false b p q = rw (ap (λ (a : Bool). one (a && leb n (v + 1))) p) (outside v n (length (passing n window)) h)

  three : (n : ℕ) → length (passing n window) ≤ 3
  three n = omega (arith, few_in n)

no_number : (n : ℕ) → length (passing n (λ d. false)) ≤ 0
unfolding passing
no_number zero = omega arith
no_number (suc n) = omega (arith, one_more n (λ d. false), no_number n)

-- so k kept lags list 3 × k at most
of_some : (kept : List ℕ) (n k : ℕ) → length (passing n (λ d. some k (mark_near kept 1 1 d))) ≤ 3 * k
unfolding some mark_near
of_some kept n zero = no_number n
of_some kept n (suc k) =
    omega (arith, either n (λ d. some k (mark_near kept 1 1 d)) (λ d. mark_near kept 1 1 d k), of_some kept n k, three (2 * get_or kept k 0) n)

pub at_most_24 : (kept : List ℕ) → Kept kept → (n : ℕ) → length (passing n (listed kept)) ≤ 24
unfolding listed marked near
at_most_24 kept r n =
    let h = fewer n (listed kept) (near kept 1 1) (λ d e. and_right (leb d 143) (near kept 1 1 d) (and_right (leb 16 d) (leb d 143 && near kept 1 1 d) e)) in
    omega (arith, h, of_some kept n (length kept), r.few)
