-- Lags and their places in the ranking of the scores, and where the scan along it ends.
use Rattle.std.specs.Prelude.{◌≡◌, refl, List, ℕ, ◌+◌, ◌-◌, ◌≤◌, ◌<◌, ℤ, length, ◌≤ℤ◌}
use Rattle.std.proofs.Common.{sym, ◌∙◌, ap, subst, arith}
use Rattle.std.proofs.Math.Decide.{dec_lt}
use Rattle.std.specs.Int.Signed.{le_z, ≤ℤ_refl}
use Rattle.lists.specs.Signal.{sample}
use Rattle.silk_sort.specs.Rank.{rank, ranked}
use Rattle.silk_sort.specs.RankLaws.{rank_ranked, ranked_below, ranked_is, ranked_falls}
use Rattle.stage1.specs.Stage1.{score1, scores1, lag_at, score_at, search_length, threshold1, kept_count}
use Rattle.stage1.specs.Meaning.{Lag, place1}
use Rattle.stage1.specs.KeptLaws.{First, first_is, length_scores, score_of}

module _ (f : List ℤ) (nb : ℕ) where
  abbrev xs : List ℤ
  xs = scores1 f nb

  pub below : {i : ℕ} → i < 65 → i < length xs
  below h = omega (arith, length_scores f nb)

  pub lag_score : (d : ℕ) → Lag d → sample xs (d - 8) ≡ score1 f nb d
  lag_score d l =
      let e : 8 + (d - 8) ≡ d = omega (arith, l.at_least) in
      score_of f nb (d - 8) (omega (arith, l.at_most)) ∙ ap (score1 f nb) e

  pub lag_is : (r : ℕ) → r < 65 → Lag (lag_at xs r)
  unfolding lag_at
  lag_is r h =
      let b = ranked_below xs r (below h) in
      let n = length_scores f nb in
      record { at_least = omega arith; at_most = omega arith }

  pub at_score : (r : ℕ) → r < 65 → score_at xs r ≡ score1 f nb (lag_at xs r)
  unfolding score_at lag_at
  at_score r h = score_of f nb (ranked xs r) (omega (arith, ranked_below xs r (below h), length_scores f nb))

  pub place_at : (r : ℕ) → r < 65 → place1 f nb (lag_at xs r) ≡ r
  unfolding lag_at
  place_at r h =
      let e : 8 + ranked xs r - 8 ≡ ranked xs r = omega arith in
      ap (rank xs) e ∙ rank_ranked xs r (below h)

  pub lag_of : (d : ℕ) → Lag d → lag_at xs (place1 f nb d) ≡ d
  unfolding lag_at
  lag_of d l =
      let e : 8 + (d - 8) ≡ d = omega (arith, l.at_least) in
      ap (λ (i : ℕ). 8 + i) (ranked_is xs (d - 8) (place1 f nb d) (below (omega (arith, l.at_most))) refl) ∙ e

  pub one_place : (d e : ℕ) → Lag d → Lag e → place1 f nb d ≡ place1 f nb e → d ≡ e
  one_place d e l m q = sym (lag_of d l) ∙ ap (lag_at xs) q ∙ lag_of e m

  -- the scores fall
  pub falls : (r s : ℕ) → r ≤ s → s < 65 → score_at xs s ≤ℤ score_at xs r
  unfolding score_at
  falls r s h l = by (dec_lt r s)
    where
      by : Dec (r < s) → sample xs (ranked xs s) ≤ℤ sample xs (ranked xs r)
      by (yes k) = ranked_falls xs r s k (below l)
      by (no k) = let e : r ≡ s = omega arith in subst (λ (m : ℕ). sample xs (ranked xs s) ≤ℤ sample xs (ranked xs m)) (sym e) (≤ℤ_refl (sample xs (ranked xs s)))

  -- the scan ends at the first that is not strictly above the threshold
  pub scan : (cx : ℕ) (thres1 : ℤ) → First 0 (search_length cx) (λ r. le_z (score_at xs r) (threshold1 xs thres1)) (kept_count xs cx thres1)
  unfolding kept_count
  scan cx thres1 = first_is (search_length cx) (λ r. le_z (score_at xs r) (threshold1 xs thres1))
