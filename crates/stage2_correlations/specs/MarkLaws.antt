-- Laws of the marked lags: the tests by their bounds.
use Rattle.std.specs.Prelude.{◌≡◌, Bool, true, false, List, ℕ, ◌+◌, ◌*◌, ◌≤◌, ◌<◌, length, refl, ◌&&◌, leb, get_or}
use Rattle.std.proofs.Common.{◌∙◌, arith, le-leb, leb-true, ap, ap₂}
use Rattle.std.proofs.Math.Bool.{and-false}
use Rattle.std.proofs.lemmas.Bool.{lt-leb}
use Rattle.best.specs.BestLaws.{some_true, some_false}
use Rattle.stage2_correlations.specs.Marks.{mark_near, near}

-- ---- one kept lag

module _ (kept : List ℕ) (below above d i : ℕ) where
  pub mark_yes : 2 * get_or kept i 0 ≤ d + below → d ≤ 2 * get_or kept i 0 + above → mark_near kept below above d i ≡ true
  unfolding mark_near
  mark_yes h k = ap₂ ◌&&◌ (le-leb _ _ h) (le-leb _ _ k)

  pub mark_no : ((2 * get_or kept i 0 ≤ d + below) × (d ≤ 2 * get_or kept i 0 + above) → ⊥) → mark_near kept below above d i ≡ false
  unfolding mark_near
  mark_no h = by (leb (2 * get_or kept i 0) (d + below)) (leb d (2 * get_or kept i 0 + above)) refl refl
    where
      by : (t u : Bool) → leb (2 * get_or kept i 0) (d + below) ≡ t → leb d (2 * get_or kept i 0 + above) ≡ u → (t && u) ≡ false
      by true true p q = absurd (h (leb-true _ _ p, leb-true _ _ q))
      by true false p q = refl
      by false u p q = refl

  pub mark_later : d + below < 2 * get_or kept i 0 → mark_near kept below above d i ≡ false
  mark_later h = mark_no (λ k. omega (arith, h, k.0))

  pub mark_earlier : 2 * get_or kept i 0 + above < d → mark_near kept below above d i ≡ false
  mark_earlier h = mark_no (λ k. omega (arith, h, k.1))

-- ---- some kept lag, and none

pub near_yes : (kept : List ℕ) (below above d i : ℕ) → i < length kept → mark_near kept below above d i ≡ true → near kept below above d ≡ true
unfolding near
near_yes kept below above d i h e = some_true (length kept) (mark_near kept below above d) i h e

pub near_no : (kept : List ℕ) (below above d : ℕ) → ((i : ℕ) → i < length kept → mark_near kept below above d i ≡ false) → near kept below above d ≡ false
unfolding near
near_no kept below above d h = some_false (length kept) (mark_near kept below above d) h

-- ---- the ends: a lag below the first, one above the last, and one between

module _ (first last d : ℕ) (t : Bool) where
  pub too_low : d < first → (leb first d && (leb d last && t)) ≡ false
  too_low h = ap (λ (u : Bool). u && (leb d last && t)) (lt-leb _ _ h)

  pub too_high : last < d → (leb first d && (leb d last && t)) ≡ false
  too_high h = ap (λ (u : Bool). leb first d && (u && t)) (lt-leb _ _ h) ∙ and-false (leb first d)

  pub inside : first ≤ d → d ≤ last → (leb first d && (leb d last && t)) ≡ t
  inside h k = ap₂ (λ (u v : Bool). u && (v && t)) (le-leb _ _ h) (le-leb _ _ k)
