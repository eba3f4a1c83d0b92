-- Laws of the search from the front: a lag's contours, one lag more, what is known after n lags, and the array of the correlations.
use Rattle.std.specs.Prelude.{Option, Some, None, ◌≡◌, Bool, List, [], ◌⊎◌, eqb, ℕ, ◌+◌, ◌-◌, ◌<◌, ◌≤◌, ℤ, negsuc, nat_abs, ◌*ℤ◌, get_or, replicate, ◌≤ℤ◌, ◌<ℤ◌, refl, true, false, ◌&&◌, ◌||◌, cond, pos}
use Rattle.std.proofs.Common.{ap₂, ◌∙◌, subst₂, arith, inl, inr, ⊎_elim, eqb-true, sym, ap}
use Rattle.std.specs.Int.Signed.{lt_z, quot_z}
use Rattle.best.specs.Best.{Place, none, at, BestOf}
use Rattle.best.specs.BestLaws.{some_true, some_false}
use Rattle.best.proofs.BestOfLaws.{best_ext}
use Rattle.best.proofs.BestOfLaws as laws
use Rattle.pitch_settings.specs.Settings.{subframes_known}
use Rattle.zint.specs.TestLaws.{lt_true, lt_false}
use Rattle.lists.specs.Fill.{tabulate, filled}
use Rattle.lists.specs.FillLaws.{get_d_tabulate, get_or-filled}
use Rattle.stage2_correlations.specs.Marks.{listed}
use Rattle.stage2_correlations.specs.Correlations.{correlation2}
use Rattle.stage2_correlations.specs.RowLaws.{correlation_small, zero_in2, zero2_subframes}
use Rattle.stage2.specs.Stage2.{ZeroDivisor, Winner, winner, won, picked, search_by, search_of, stage2}
use Rattle.stage2.specs.declared.BestLag.{BestLag}
use Rattle.stage2.specs.Scores.{contour_sum, best_contour, lag_sum, Search2, passes2, score2}
use Rattle.stage2.specs.ScoreLaws.{contour_is, Agree, with_correlations, lag_small, score_above, best_contour_ext, lag_sum_ext, passes_ext, score_ext}
use Rattle.stage2.specs.Search.{at2, SixteenBits, along, top_of, sum_of, considered, best_with, best_answer, BestOfAll}

-- two or four subframes, by the test
pub two_or_four : {nb : ℕ} → subframes_known nb ≡ true → (nb ≡ 2) ⊎ (nb ≡ 4)
unfolding subframes_known
two_or_four {nb} e = by (eqb nb 2) (eqb nb 4) refl refl e
  where
    by : (t u : Bool) → eqb nb 2 ≡ t → eqb nb 4 ≡ u → (t || u) ≡ true → (nb ≡ 2) ⊎ (nb ≡ 4)
    by true u p q e = inl (eqb-true nb 2 p)
    by false true p q e = inr (eqb-true nb 4 q)
    by false false p q e = cc

pub subframes_of : {nb : ℕ} → (nb ≡ 2) ⊎ (nb ≡ 4) → subframes_known nb ≡ true
unfolding subframes_known
subframes_of s = ⊎_elim (λ e. rw e refl) (λ e. rw e refl) s

-- the first n contours: j is best, and top its sum
module _ (c : ℕ → ℕ → ℤ) (nb d : ℕ) where
  pub record Leads (n : ℕ) (top : ℤ) (j : ℕ) : Type 0 where
    pub is : top ≡ contour_sum c nb d j
    pub leads : BestOf n (λ q. true) (contour_sum c nb d) j

  pub leads_first : (top : ℤ) → top ≡ contour_sum c nb d 0 → Leads 1 top 0
  leads_first top e = record { is = e; leads = laws.outcome_first (λ q. true) (contour_sum c nb d) 0 (λ q l. absurd (omega arith)) refl }

  module _ {n : ℕ} {top : ℤ} {j : ℕ} (l : Leads n top j) (s : ℤ) (e : s ≡ contour_sum c nb d n) where
    pub leads_over : top <ℤ s → Leads (n + 1) s n
    leads_over h = record { is = e; leads = laws.outcome_over (λ q. true) (contour_sum c nb d) n j l.leads refl (subst₂ ◌<ℤ◌ l.is e h) }

    pub leads_under : s ≤ℤ top → Leads (n + 1) top j
    leads_under h = record { is = l.is; leads = laws.outcome_under (λ q. true) (contour_sum c nb d) n j l.leads (subst₂ ◌≤ℤ◌ e l.is h) }

  pub leads_all : (m : ℕ) (top : ℤ) (j : ℕ) → Leads m top j → record { cc = top; contour = j } ≡ along c nb m d
  unfolding along lag_sum
  leads_all m top j l =
      let e = contour_is c nb m d j l.leads in
      λ i. record { cc = (l.is ∙ ap (contour_sum c nb d) (sym e)) i; contour = sym e i }

-- ---- one lag more

module _ (b : Option BestLag) (d : ℕ) (cc : ℤ) (j : ℕ) (s thres : ℤ) where
  abbrev taken : Bool → Bool → Option BestLag
  taken t u = cond (t && u) (Some (record { top = s; cc = cc; lag = d; contour = j })) b

  pub takes : lt_z thres cc ≡ true → lt_z (top_of b) s ≡ true → Some (record { top = s; cc = cc; lag = d; contour = j }) ≡ considered b d cc j s thres
  unfolding considered
  takes e f = sym (ap₂ taken e f)

  pub keeps : lt_z thres cc ≡ true → lt_z (top_of b) s ≡ false → b ≡ considered b d cc j s thres
  unfolding considered
  keeps e f = sym (ap₂ taken e f)

  pub fails : lt_z thres cc ≡ false → b ≡ considered b d cc j s thres
  unfolding considered
  fails e = sym (ap (λ (t : Bool). taken t (lt_z (top_of b) s)) e)

module _ (s : Search2) (d : ℕ) (b : Option BestLag) where
  abbrev with_it : Option BestLag
  with_it = considered b d (lag_sum s.correlations s.subframes s.contours d) (best_contour s.correlations s.subframes s.contours d) (score2 s d) s.threshold

  pub with_listed : listed s.kept d ≡ true → with_it ≡ best_with s d b
  unfolding best_with
  with_listed e = sym (ap (λ (t : Bool). cond t with_it b) e)

  pub with_unlisted : listed s.kept d ≡ false → b ≡ best_with s d b
  unfolding best_with
  with_unlisted e = sym (ap (λ (t : Bool). cond t with_it b) e)

-- ---- after n lags

module _ (s : Search2) where
  pub record AfterLags (n : ℕ) (b : Option BestLag) : Type 0 where
    pub place : Place
    pub state : laws.Search (negsuc 2147483647) (λ p. passes2 s (16 + p)) (λ p. score2 s (16 + p)) n (top_of b) place
    pub answer : won s place ≡ best_answer s.subframes b
    pub small : nat_abs (sum_of b) ≤ 131072

  -- before the first lag
  pub after_none : AfterLags 0 None
  after_none = record { place = none; state = laws.search_start; answer = refl; small = omega arith }

  -- one lag more
  module _ (n : ℕ) (b : Option BestLag) (u : AfterLags n b) (small : SixteenBits s.correlations s.subframes) (f : s.subframes ≤ 4) (h : n < 128) where
    abbrev d : ℕ
    d = 16 + n

    abbrev total : ℤ
    total = lag_sum s.correlations s.subframes s.contours d

    kept_so : passes2 s d ≡ false → AfterLags (n + 1) b
    kept_so e = record { place = u.place; state = laws.search_skip u.state e; answer = u.answer; small = u.small }

    abbrev fresh : BestLag
    fresh = record { top = score2 s d; cc = total; lag = d; contour = best_contour s.correlations s.subframes s.contours d }

    better : passes2 s d ≡ true → lt_z (top_of b) (score2 s d) ≡ true → AfterLags (n + 1) (Some fresh)
    better e l =
        record {
          place = at n;
          state = laws.search_better u.state e (lt_true (top_of b) (score2 s d) l);
          answer = refl;
          small = lag_small s.correlations s.subframes d small (omega arith) (omega arith) s.contours f;
        }

    not_better : lt_z (top_of b) (score2 s d) ≡ false → AfterLags (n + 1) b
    not_better l =
        record {
          place = u.place;
          state = laws.search_kept u.state (score_above s d small f (omega arith) (omega arith)) (lt_false (top_of b) (score2 s d) l);
          answer = u.answer;
          small = u.small;
        }

    by_tests : (p q r : Bool) → listed s.kept d ≡ p → lt_z s.threshold total ≡ q → lt_z (top_of b) (score2 s d) ≡ r
        → AfterLags (n + 1) (cond p (cond (q && r) (Some fresh) b) b)
    unfolding passes2
    by_tests false q r ep eq er = kept_so (ap (λ (t : Bool). t && lt_z s.threshold total) ep)
    by_tests true false r ep eq er = kept_so (ap₂ ◌&&◌ ep eq)
    by_tests true true true ep eq er = better (ap₂ ◌&&◌ ep eq) er
    by_tests true true false ep eq er = not_better er

    pub after_next : AfterLags (n + 1) (best_with s d b)
    unfolding best_with considered
    after_next = by_tests (listed s.kept d) (lt_z s.threshold total) (lt_z (top_of b) (score2 s d)) refl refl refl

  -- after all lags
  pub after_all : (b : Option BestLag) → AfterLags 128 b → BestOfAll s b
  unfolding picked winner
  after_all b u = record { answer = sym (ap (won s) (laws.search_best u.state) ∙ u.answer); small = u.small }

-- ---- correlations that agree give the same answer

module _ (s : Search2) (c : ℕ → ℕ → ℤ) (a : Agree s.correlations c s.subframes) where
  won_ext : (x : Place) → laws.BestBelow 128 (λ p. passes2 s (16 + p)) (λ p. score2 s (16 + p)) x → won s x ≡ won (with_correlations s c) x
  won_ext none o = refl
  won_ext (at p) o =
      let l : 16 ≤ 16 + p = omega arith in
      let h : 16 + p ≤ 143 = omega (arith, o.within) in
      ap₂ (λ (j : ℕ) (z : ℤ). Winner (16 + p) j (quot_z z (pos s.subframes) *ℤ pos 4)) (best_contour_ext s.correlations c s.subframes a (16 + p) l h s.contours) (lag_sum_ext s.correlations c s.subframes a (16 + p) l h s.contours)

  pub picked_ext : picked s ≡ picked (with_correlations s c)
  unfolding picked winner
  picked_ext =
      won_ext (winner s) (laws.best_outcome 128 _ _)
      ∙ ap (won (with_correlations s c)) (best_ext 128 _ _ _ _
      (λ p l. passes_ext s c a (16 + p) (omega arith) (omega arith))
      (λ p l. score_ext s c a (16 + p) (omega arith) (omega arith)))

-- ---- the array of the correlations of a frame

unfoldable pub rows : List ℤ → List ℕ → ℕ → List (List ℤ)
rows e kept n = filled (λ k. tabulate (λ i. correlation2 e kept k (14 + i)) 132) n (replicate 4 (replicate 132 (pos 0)))

pub rows_at : (e : List ℤ) (kept : List ℕ) (n k d : ℕ) → k < n → 14 ≤ d → d ≤ 145 → at2 (rows e kept n) k d ≡ correlation2 e kept k d
unfolding rows
rows_at e kept n k d h l u =
    let q : 14 + (d - 14) ≡ d = omega arith in
    ap (λ (r : List ℤ). get_or r (d - 14) (pos 0)) (get_or-filled (λ k. tabulate (λ i. correlation2 e kept k (14 + i)) 132) n (replicate 4 (replicate 132 (pos 0))) k [] h)
    ∙ get_d_tabulate (λ i. correlation2 e kept k (14 + i)) 132 (d - 14) (pos 0) (omega arith)
    ∙ ap (correlation2 e kept k) q

pub rows_agree : (e : List ℤ) (kept : List ℕ) (n : ℕ) → Agree (at2 (rows e kept n)) (correlation2 e kept) n
rows_agree e kept n = record { same = λ k d h l u. rows_at e kept n k d h l u }

pub rows_small : (e : List ℤ) (kept : List ℕ) (n : ℕ) → SixteenBits (at2 (rows e kept n)) n
rows_small e kept n = record { each = λ k d h l u. rw (rows_at e kept n k d h l u) (correlation_small e kept k d) }

-- the answer where no divisor that is reached is zero, and where one is
module _ (e : List ℤ) (kept : List ℕ) (fs nb cx : ℕ) (thres2 prev corr : ℤ) where
  pub stage2_picked : ((k : ℕ) → k < nb → zero_in2 e kept k ≡ false) → picked (search_by (at2 (rows e kept nb)) kept fs nb cx thres2 prev corr) ≡ stage2 e kept fs nb cx thres2 prev corr
  unfolding stage2
  stage2_picked h =
      picked_ext (search_by (at2 (rows e kept nb)) kept fs nb cx thres2 prev corr) (correlation2 e kept) (rows_agree e kept nb)
      ∙ sym (ap (λ (t : Bool). cond t ZeroDivisor (picked (search_of e kept fs nb cx thres2 prev corr))) (zero2_subframes e kept nb ∙ some_false nb (zero_in2 e kept) h))

  pub stage2_zero : (k : ℕ) → k < nb → zero_in2 e kept k ≡ true → ZeroDivisor ≡ stage2 e kept fs nb cx thres2 prev corr
  unfolding stage2
  stage2_zero k l h =
      sym (ap (λ (t : Bool). cond t ZeroDivisor (picked (search_of e kept fs nb cx thres2 prev corr))) (zero2_subframes e kept nb ∙ some_true nb (zero_in2 e kept) k l h))
