-- Stage 2's answer has the meaning that `Meaning` gives it in words (`stage2_means`), and no other answer has (`stage2_only`): so each answer is given exactly where its words
-- hold (`stage2_exactly`). With it the winner's range, and that of the lag that stage 3 starts from.
use Rattle.std.specs.Prelude.{◌≡◌, Bool, cond, List, ◌⊎◌, ℕ, ◌+◌, ◌-◌, ◌*◌, ◌/◌, ◌<◌, ◌≤◌, ℤ, pos, ◌*ℤ◌, ◌≤ℤ◌, ◌<ℤ◌, refl, true, false, ◌&&◌}
use Rattle.std.proofs.Common.{sym, ◌∙◌, ⊎_elim, ap, ap₂, subst, arith}
use Rattle.std.proofs.Math.Bool.{false≢true}
use Rattle.std.proofs.Math.Decide.{dec_lt}
use Rattle.std.specs.Int.Signed.{lt_z, quot_z, clash_ℤ}
use Rattle.silk_macros.specs.Divide.{by_zero}
use Rattle.silk_macros.specs.DivideLaws.{by_zero_is}
use Rattle.zint.specs.EqualLaws.{eq_z_yes, eq_z_true}
use Rattle.zint.specs.OrderLaws.{lt_yes}
use Rattle.zint.specs.TestLaws.{lt_true}
use Rattle.silk_tables.specs.Tables.{contours2}
use Rattle.silk_tables.specs.Stage2Laws.{contours2_bounds}
use Rattle.zint.specs.BoolLaws.{and_left, and_right}
use Rattle.best.specs.Best as Best
use Rattle.best.specs.Best.{Place, none, at, BestOf}
use Rattle.best.specs.BestLaws.{some_find, some_none}
use Rattle.best.proofs.BestOfLaws.{best_outcome, BestBelow}
use Rattle.stage2_correlations.specs.Marks.{listed, measured}
use Rattle.stage2_correlations.specs.MeaningLaws.{listed_means, measured_means}
use Rattle.stage2_correlations.specs.Correlations.{cross2, divisor2, quotient2, zero_reached2, zero2}
use Rattle.stage2_correlations.specs.RowLaws.{zero_in2, zero2_subframes}
use Rattle.stage2.specs.Stage2.{Stage2, ZeroDivisor, Unvoiced, Winner, winner, won, picked, search_of, stage2}
use Rattle.stage2.specs.Scores.{contour_sum, place_no, best_contour, lag_sum, Search2, passes2, score2}
use Rattle.stage2.specs.Meaning.{ZeroReached2, NoZero2, FirstContour, Passes, Wins, Meaning2}

-- ---- a lag's sum is that of its first contour of greatest sum

module _ (s : Search2) (d : ℕ) where
  abbrev sums : ℕ → ℤ
  sums = contour_sum s.correlations s.subframes d

  contour_first : 0 < s.contours → FirstContour s d (best_contour s.correlations s.subframes s.contours d)
  unfolding best_contour
  contour_first h = by (Best.best s.contours (λ j. true) sums) (best_outcome s.contours (λ j. true) sums)
    where
      by : (a : Place) → BestBelow s.contours (λ j. true) sums a → FirstContour s d (place_no a)
      by none o = absurd (false≢true (sym (o 0 h)))
      by (at p) o = record { tried = o.within; highest = λ j l. o.least_high j l refl; first = λ j l. o.first j l refl }

  -- only one contour is that
  one_contour : (j j' : ℕ) → FirstContour s d j → FirstContour s d j' → j ≡ j'
  one_contour j j' f g = by (dec_lt j j') (dec_lt j' j)
    where
      by : Dec (j < j') → Dec (j' < j) → j ≡ j'
      by (yes l) r = clash_ℤ (g.first j l) (f.highest j' g.tried)
      by (no l) (yes r) = clash_ℤ (f.first j' r) (g.highest j f.tried)
      by (no l) (no r) = omega arith

-- ---- tests and words

module _ (e : List ℤ) (kept : List ℕ) (nb : ℕ) where
  of_zero : (k d : ℕ) → k < nb → zero_reached2 e kept k d ≡ true → ZeroReached2 e kept nb k d
  unfolding zero_reached2 quotient2
  of_zero k d l t =
      let x = lt_z (pos 0) (cross2 e k d) in
      let z = by_zero (quotient2 e k d) in
      let u = and_right (measured kept d) (x && z) t in
      record {
        subframe = l;
        measures = (measured_means kept d).0 (and_left (measured kept d) (x && z) t);
        positive = lt_true (pos 0) (cross2 e k d) (and_left x z u);
        is_zero = eq_z_true (divisor2 e k d) (pos 0) (sym (by_zero_is (cross2 e k d) (divisor2 e k d) (pos 14)) ∙ and_right x z u);
      }

  zero_of : (k d : ℕ) → ZeroReached2 e kept nb k d → zero_reached2 e kept k d ≡ true
  unfolding zero_reached2 quotient2
  zero_of k d z =
      ap₂ ◌&&◌ ((measured_means kept d).1 z.measures) (ap₂ ◌&&◌ (lt_yes z.positive) (by_zero_is (cross2 e k d) (divisor2 e k d) (pos 14) ∙ eq_z_yes z.is_zero))

  zero_found : zero2 e kept nb ≡ true → (k : ℕ) × (d : ℕ) × ZeroReached2 e kept nb k d
  unfolding zero_in2
  zero_found t =
      let p = some_find nb (zero_in2 e kept) (sym (zero2_subframes e kept nb) ∙ t) in
      let q = some_find 131 (λ i. zero_reached2 e kept p.0 (14 + i)) p.2 in
      (p.0, 14 + q.0, of_zero p.0 (14 + q.0) p.1 q.2)

  no_zero : zero2 e kept nb ≡ false → NoZero2 e kept nb
  unfolding zero_in2
  no_zero t k d z =
      let l = z.measures.at_least in
      let m = z.measures.at_most in
      let n = some_none 131 (λ i. zero_reached2 e kept k (14 + i)) (some_none nb (zero_in2 e kept) (sym (zero2_subframes e kept nb) ∙ t) k z.subframe) (d - 14) (omega arith) in
      let q : 14 + (d - 14) ≡ d = omega arith in
      false≢true (sym n ∙ ap (zero_reached2 e kept k) q ∙ zero_of k d z)

module _ (s : Search2) where
  abbrev sum_of : ℕ → ℤ
  sum_of d = lag_sum s.correlations s.subframes s.contours d

  of_passes : (d : ℕ) → passes2 s d ≡ true → Passes s d
  unfolding passes2
  of_passes d t =
      record {
        lists = (listed_means s.kept d).0 (and_left (listed s.kept d) (lt_z s.threshold (sum_of d)) t);
        above = lt_true s.threshold (sum_of d) (and_right (listed s.kept d) (lt_z s.threshold (sum_of d)) t);
      }

  passes_of : (d : ℕ) → Passes s d → passes2 s d ≡ true
  unfolding passes2
  passes_of d p = ap₂ ◌&&◌ ((listed_means s.kept d).1 p.lists) (lt_yes p.above)

  -- a passing lag and its place
  place_of : (d : ℕ) → Passes s d → (d - 16 < 128) × (16 + (d - 16) ≡ d)
  place_of d p =
      let l = p.lists.at_least in
      let h = p.lists.at_most in
      (omega arith, omega arith)

  abbrev cand : ℕ → Bool
  cand p = passes2 s (16 + p)

  abbrev points_at : ℕ → ℤ
  points_at p = score2 s (16 + p)

  cand_of : (d : ℕ) → Passes s d → cand (d - 16) ≡ true
  cand_of d p = ap (passes2 s) (place_of d p).1 ∙ passes_of d p

  points_of : (d : ℕ) → Passes s d → points_at (d - 16) ≡ score2 s d
  points_of d p = ap (score2 s) (place_of d p).1

  best_wins : 0 < s.contours → (p : ℕ) → BestOf 128 cand points_at p
      → Wins s (16 + p) (best_contour s.correlations s.subframes s.contours (16 + p)) (quot_z (sum_of (16 + p)) (pos s.subframes) *ℤ pos 4)
  unfolding lag_sum
  best_wins some_tried p b =
      record {
        passes_so = of_passes (16 + p) b.candidate;
        highest = λ d q. subst (λ (z : ℤ). z ≤ℤ points_at p) (points_of d q) (b.least_high (d - 16) (place_of d q).0 (cand_of d q));
        first = λ d q l.
            let k = q.lists.at_least in
            subst (λ (z : ℤ). z <ℤ points_at p) (points_of d q) (b.first (d - 16) (omega arith) (cand_of d q));
        contour = contour_first s (16 + p) some_tried;
        correlates = refl;
      }

  one_winner : (d j d' j' : ℕ) (r r' : ℤ) → Wins s d j r → Wins s d' j' r' → Winner d j r ≡ Winner d' j' r'
  one_winner d j d' j' r r' a b = by (dec_lt d d') (dec_lt d' d)
    where
      same : d ≡ d' → Winner d j r ≡ Winner d' j' r'
      same q =
          let f = subst (λ (x : ℕ). FirstContour s x j) q a.contour in
          let k = one_contour s d' j j' f b.contour in
          let t = a.correlates ∙ ap₂ (λ (x y : ℕ). quot_z (contour_sum s.correlations s.subframes x y) (pos s.subframes) *ℤ pos 4) q k ∙ sym b.correlates in
          λ i. Winner (q i) (k i) (t i)

      by : Dec (d < d') → Dec (d' < d) → Winner d j r ≡ Winner d' j' r'
      by (yes l) k = clash_ℤ (b.first d a.passes_so l) (a.highest d' b.passes_so)
      by (no l) (yes k) = clash_ℤ (a.first d' b.passes_so k) (b.highest d a.passes_so)
      by (no l) (no k) = same (omega arith)

-- ---- the answer has the meaning, and no other has

module _ (e : List ℤ) (kept : List ℕ) (fs nb cx : ℕ) (thres2 prev corr : ℤ) where
  abbrev searched : Search2
  searched = search_of e kept fs nb cx thres2 prev corr

  abbrev Means : Stage2 → Type 0
  Means = Meaning2 e kept fs nb cx thres2 prev corr

  abbrev answer : Stage2
  answer = stage2 e kept fs nb cx thres2 prev corr

  by_place : (a : Place) → BestBelow 128 (cand searched) (points_at searched) a → NoZero2 e kept nb → Means (won searched a)
  by_place none o z = (z, λ d p. false≢true (sym (o (d - 16) (place_of searched d p).0) ∙ cand_of searched d p))
  by_place (at p) o z = let b = contours2_bounds fs nb cx in (z, best_wins searched (omega arith) p o)

  pub stage2_means : Means answer
  unfolding stage2 picked winner
  stage2_means = by (zero2 e kept nb) refl
    where
      by : (t : Bool) → zero2 e kept nb ≡ t → Means (cond t ZeroDivisor (won searched (Best.best 128 (cand searched) (points_at searched))))
      by true h = zero_found e kept nb h
      by false h = by_place (Best.best 128 (cand searched) (points_at searched)) (best_outcome 128 (cand searched) (points_at searched)) (no_zero e kept nb h)

  one_meaning : (x y : Stage2) → Means x → Means y → x ≡ y
  one_meaning ZeroDivisor ZeroDivisor a b = refl
  one_meaning ZeroDivisor Unvoiced (k, d, z) (n, p) = absurd (n k d z)
  one_meaning ZeroDivisor (Winner d j r) (k, d', z) (n, w) = absurd (n k d' z)
  one_meaning Unvoiced ZeroDivisor (n, p) (k, d, z) = absurd (n k d z)
  one_meaning Unvoiced Unvoiced a b = refl
  one_meaning Unvoiced (Winner d j r) (n, p) (n', w) = absurd (p d w.passes_so)
  one_meaning (Winner d j r) ZeroDivisor (n, w) (k, d', z) = absurd (n k d' z)
  one_meaning (Winner d j r) Unvoiced (n, w) (n', p) = absurd (p d w.passes_so)
  one_meaning (Winner d j r) (Winner d' j' r') (n, w) (n', w') = one_winner searched d j d' j' r r' w w'

  pub stage2_only : (x : Stage2) → Means x → x ≡ answer
  stage2_only x a = one_meaning x answer a stage2_means

  -- so each answer is given exactly where its words hold
  pub stage2_exactly : (x : Stage2)
      → (stage2 e kept fs nb cx thres2 prev corr ≡ x → Meaning2 e kept fs nb cx thres2 prev corr x) × (Meaning2 e kept fs nb cx thres2 prev corr x → stage2 e kept fs nb cx thres2 prev corr ≡ x)
  stage2_exactly x = (λ q. subst Means q stage2_means, λ a. sym (stage2_only x a))

-- ---- the winner's range, and that of the lag that stage 3 starts from

pub winner_range : (e : List ℤ) (kept : List ℕ) (fs nb cx : ℕ) (thres2 prev corr : ℤ) (d j : ℕ) (r : ℤ) → stage2 e kept fs nb cx thres2 prev corr ≡ Winner d j r
    → (16 ≤ d) × ((d ≤ 143) × (j < contours2 fs nb cx))
winner_range e kept fs nb cx thres2 prev corr d j r q =
    let w = ((stage2_exactly e kept fs nb cx thres2 prev corr (Winner d j r)).0 q).1 in
    (w.passes_so.lists.at_least, (w.passes_so.lists.at_most, w.contour.tried))

pub scaled_range : (fs d : ℕ) → (fs ≡ 8) ⊎ ((fs ≡ 12) ⊎ (fs ≡ 16)) → 16 ≤ d → d ≤ 143 → (2 * fs ≤ d * fs / 8) × (d * fs / 8 ≤ 18 * fs)
scaled_range fs d s l h =
    ⊎_elim (λ q. rw q (omega arith, omega arith)) (λ t. ⊎_elim (λ q. rw q (omega arith, omega arith)) (λ q. rw q (omega arith, omega arith)) t) s
