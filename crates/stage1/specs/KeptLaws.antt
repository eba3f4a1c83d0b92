-- Laws of stage 1's choice of the lags that go on.
use Rattle.std.specs.Prelude.{◌≡◌, refl, Bool, true, false, ℕ, zero, suc, ◌+◌, ◌≤◌, ◌<◌, ℤ, pos, length, take, replicate, ◌≤ℤ◌, ◌<ℤ◌, cond, List, get_or}
use Rattle.std.proofs.Common.{◌∙◌, subst, arith, take_all, get_or-take, length-take-le, sym, ap, ap₂}
use Rattle.std.proofs.Math.Decide.{dec_lt}
use Rattle.std.specs.Int.Signed.{lt_z, le_z}
use Rattle.zint.specs.OrderLaws.{le_yes, le_no}
use Rattle.lists.specs.Signal.{sample}
use Rattle.lists.specs.Fill.{filled}
use Rattle.lists.specs.FillLaws.{filled_ext, get_or-filled, get_d_tabulate, length_filled, length_tabulate}
use Rattle.best.specs.Best.{Place, at, first_from}
use Rattle.best.specs.BestLaws.{first_at, first_none}
use Rattle.silk_macros.specs.Macros.{smulwb}
use Rattle.stage1.specs.Stage1.{ZeroDivisor, Unvoiced, Goes, Stage1, zero1, score1, scores1, lag_at, score_at, search_length, threshold1, place_or, kept_count, stopped, screened, stage1}
use Rattle.silk_sort.specs.Rank.{ranked}
use Rattle.silk_sort.specs.RankLaws.{ranked_below}
use Rattle.stage1.specs.Steps.{count_above, selected}

-- p is the first number from i up to e that passes the test, or e where none does
pub record First (i e : ℕ) (t : ℕ → Bool) (p : ℕ) : Type 0 where
  pub from : i ≤ p
  pub within : p ≤ e
  pub none_before : (q : ℕ) → i ≤ q → q < p → t q ≡ false
  pub passes : p < e → t p ≡ true

first_of : (i k : ℕ) (t : ℕ → Bool) → First i (i + k) t (place_or (i + k) (first_from i k t))
unfolding place_or first_from
first_of i zero t = record { from = omega arith; within = omega arith; none_before = λ q l u. absurd (omega arith); passes = λ l. absurd (omega arith) }
first_of i (suc k) t = by (t i) refl (first_of (suc i) k t)
  where
    by : (b : Bool) → t i ≡ b → First (suc i) (suc i + k) t (place_or (suc i + k) (first_from (suc i) k t)) → First i (i + suc k) t (place_or (i + suc k) (cond b (at i) (first_from (suc i) k t)))
    by true e r = record { from = omega arith; within = omega arith; none_before = λ q l u. absurd (omega arith); passes = λ l. e }
    by false e r =
        let m : suc i + k ≡ i + suc k = omega arith in
        let r' = subst (λ (x : ℕ). First (suc i) x t (place_or x (first_from (suc i) k t))) m r in
        record { from = omega (arith, r'.from); within = r'.within; none_before = λ q l u. or_first q (dec_lt i q) l (λ h. r'.none_before q h u); passes = r'.passes }
      where
        or_first : (q : ℕ) → Dec (i < q) → i ≤ q → (i < q → t q ≡ false) → t q ≡ false
        or_first q (yes h) l rec = rec h
        or_first q (no h) l rec = let z : q ≡ i = omega arith in ap t z ∙ e

pub first_is : (k : ℕ) (t : ℕ → Bool) → First 0 k t (place_or k (first_from 0 k t))
first_is k t = let z : 0 + k ≡ k = omega arith in subst (λ (x : ℕ). First 0 x t (place_or x (first_from 0 k t))) z (first_of 0 k t)

pub count_above_is : (c : List ℤ) (k : ℕ) (threshold : ℤ) (p : ℕ) → p ≤ k → ((q : ℕ) → q < p → threshold <ℤ sample c q) → (p < k → sample c p ≤ℤ threshold) → p ≡ count_above c k threshold
unfolding count_above place_or
count_above_is c k threshold p l f e = by (dec_lt p k)
  where
    by : Dec (p < k) → p ≡ place_or k (first_from 0 k (λ r. le_z (sample c r) threshold))
    by (yes h) = sym (ap (place_or k) (first_at 0 k (λ r. le_z (sample c r) threshold) p (omega arith) (omega arith) (le_yes (e h)) (λ q a b. le_no (f q b))))
    by (no h) = let d : p ≡ k = omega arith in d ∙ sym (ap (place_or k) (first_none 0 k (λ r. le_z (sample c r) threshold) (λ q a b. le_no (f q (omega arith)))))

pub count_above_le : (c : List ℤ) (k : ℕ) (threshold : ℤ) → count_above c k threshold ≤ k
unfolding count_above
count_above_le c k threshold = (first_is k (λ r. le_z (sample c r) threshold)).within

-- the two answers
module _ (c : List ℤ) (d : List ℕ) (k : ℕ) (thres1 : ℤ) where
  abbrev goes : ℕ → List ℕ → Stage1
  goes r l = record { screen = Goes; lags = l; count = r }

  abbrev lags_to : ℕ → List ℕ
  lags_to r = filled (λ i. 8 + get_or d i 0) r (replicate 8 0)

  abbrev either : Bool → Stage1
  either t = cond t (stopped Unvoiced) (goes (count_above c k (smulwb thres1 (sample c 0))) (lags_to (count_above c k (smulwb thres1 (sample c 0)))))

  pub selected_low : lt_z (sample c 0) (pos 3277) ≡ true → stopped Unvoiced ≡ selected c d k thres1
  unfolding selected
  selected_low e = sym (ap either e)

  pub selected_high : (r : ℕ) (l : List ℕ) → lt_z (sample c 0) (pos 3277) ≡ false → r ≡ count_above c k (smulwb thres1 (sample c 0)) → l ≡ filled (λ i. 8 + get_or d i 0) r (replicate 8 0)
      → record { screen = Goes; lags = l; count = r } ≡ selected c d k thres1
  unfolding selected
  selected_high r l e er el = ap₂ goes er (el ∙ ap lags_to er) ∙ sym (ap either e)

-- tests that agree have the same first number
first_ext : (i k : ℕ) (t u : ℕ → Bool) → ((q : ℕ) → i ≤ q → q < i + k → t q ≡ u q) → first_from i k t ≡ first_from i k u
unfolding first_from
first_ext i zero t u h = refl
first_ext i (suc k) t u h =
    ap₂ (λ (b : Bool) (p : Place). cond b (at i) p) (h i (omega arith) (omega arith)) (first_ext (suc i) k t u (λ q l m. h q (omega arith) (omega arith)))

-- ---- the places that are searched, as lists of their own

pub front_lags : (d : List ℕ) (k n : ℕ) → n ≤ k → filled (λ i. 8 + get_or (take k d) i 0) n (replicate 8 0) ≡ filled (λ i. 8 + get_or d i 0) n (replicate 8 0)
front_lags d k n l = filled_ext n (replicate 8 0) (λ i m. ap (λ (x : ℕ). 8 + x) (get_or-take k d i 0 (omega arith)))

module _ (c : List ℤ) (d : List ℕ) (k : ℕ) (h : k ≤ length c) where
  front_sample : (i : ℕ) → i < k → sample (take k c) i ≡ sample c i
  unfolding sample
  front_sample i l = get_or-take k c i (pos 0) l

  front_count : (threshold : ℤ) → count_above (take k c) k threshold ≡ count_above c k threshold
  unfolding count_above
  front_count threshold = ap (place_or k) (first_ext 0 k _ _ (λ q l m. ap (λ (z : ℤ). le_z z threshold) (front_sample q (omega arith))))

  pub selected_front : (thres1 : ℤ) → 0 < k → selected (take k c) (take k d) (length (take k c)) thres1 ≡ selected c d k thres1
  unfolding selected
  selected_front thres1 p =
      let best = front_sample 0 p in
      let threshold : smulwb thres1 (sample (take k c) 0) ≡ smulwb thres1 (sample c 0) = ap (smulwb thres1) best in
      let count = ap (count_above (take k c) k) threshold ∙ front_count (smulwb thres1 (sample c 0)) in
      ap (λ (n : ℕ). selected (take k c) (take k d) n thres1) (length-take-le k c h)
      ∙ (λ t. cond (lt_z (best t) (pos 3277)) (stopped Unvoiced)
      (record {
        screen = Goes;
        lags = (ap (λ (n : ℕ). filled (λ i. 8 + get_or (take k d) i 0) n (replicate 8 0)) count ∙ front_lags d k (count_above c k (smulwb thres1 (sample c 0))) (count_above_le c k (smulwb thres1 (sample c 0)))) t;
        count = count t;
      }))

-- ---- the answer, from the arrays that the sort leaves

-- at least one place is searched, and at most eight
pub search_length_some : (cx : ℕ) → 0 < search_length cx
unfolding search_length
search_length_some cx = omega arith

pub search_length_few : {cx : ℕ} → cx < 3 → search_length cx ≤ 8
unfolding search_length
search_length_few small = omega arith

pub length_scores : (f : List ℤ) (nb : ℕ) → length (scores1 f nb) ≡ 65
unfolding scores1
length_scores f nb = length_tabulate (λ i. score1 f nb (8 + i)) 65

pub score_of : (f : List ℤ) (nb i : ℕ) → i < 65 → sample (scores1 f nb) i ≡ score1 f nb (8 + i)
unfolding scores1 sample
score_of f nb i h = get_d_tabulate (λ k. score1 f nb (8 + k)) 65 i (pos 0) h

pub stage1_zero : (f : List ℤ) (nb cx : ℕ) (thres1 : ℤ) → zero1 f nb ≡ true → stopped ZeroDivisor ≡ stage1 f nb cx thres1
unfolding stage1
stage1_zero f nb cx thres1 e = sym (ap (λ (t : Bool). cond t (stopped ZeroDivisor) (screened (scores1 f nb) cx thres1)) e)

module _ (f : List ℤ) (nb : ℕ) (c a : List ℤ) (d : List ℕ) (k : ℕ) (ec : c ≡ scores1 f nb)
    (ea : a ≡ filled (λ r. sample (take 65 c) (ranked (take 65 c) r)) k c) (ed : d ≡ filled (ranked (take 65 c)) k (replicate 8 0)) (hk : k ≤ 8) where
  abbrev xs : List ℤ
  xs = scores1 f nb

  whole : take 65 c ≡ xs
  whole = ap (take 65) ec ∙ take_all 65 xs (omega (arith, length_scores f nb))

  score_is : (i : ℕ) → i < k → sample a i ≡ score_at xs i
  unfolding sample score_at
  score_is i h =
      ap (λ (l : List ℤ). get_or l i (pos 0)) ea
      ∙ get_or-filled (λ r. sample (take 65 c) (ranked (take 65 c) r)) k c i (pos 0) h
      ∙ ap (λ (l : List ℤ). get_or l (ranked l i) (pos 0)) whole

  index_is : (i : ℕ) → i < k → get_or d i 0 ≡ ranked xs i
  index_is i h =
      ap (λ (l : List ℕ). get_or l i 0) ed
      ∙ get_or-filled (ranked (take 65 c)) k (replicate 8 0) i 0 h
      ∙ ap (λ (l : List ℤ). ranked l i) whole

  -- what the selection asks
  pub scores_long : k ≤ length a
  scores_long = omega (arith, ap length ea, length_filled (λ r. sample (take 65 c) (ranked (take 65 c) r)) k c (omega (arith, ap length ec, length_scores f nb)), ap length ec, length_scores f nb)

  pub indices_long : k ≤ length d
  indices_long = omega (arith, ap length ed, length_filled (ranked (take 65 c)) k (replicate 8 0) hk)

  pub indices_low : (i : ℕ) → i < k → get_or d i 0 < 65
  indices_low i h = omega (arith, index_is i h, ranked_below xs i (omega (arith, length_scores f nb)), length_scores f nb)

  module _ (cx : ℕ) (thres1 : ℤ) (hp : 0 < k) (lk : k ≡ search_length cx) where
    count_is : count_above a k (smulwb thres1 (sample a 0)) ≡ kept_count xs cx thres1
    unfolding count_above kept_count threshold1
    count_is =
        ap (place_or k) (first_ext 0 k _ (λ r. le_z (score_at xs r) (smulwb thres1 (score_at xs 0)))
        (λ q l m. ap₂ (λ (x y : ℤ). le_z x (smulwb thres1 y)) (score_is q (omega arith)) (score_is 0 hp)))
        ∙ ap (λ (m : ℕ). place_or m (first_from 0 m (λ r. le_z (score_at xs r) (smulwb thres1 (score_at xs 0))))) lk

    lags_are : filled (λ i. 8 + get_or d i 0) (count_above a k (smulwb thres1 (sample a 0))) (replicate 8 0) ≡ filled (lag_at xs) (kept_count xs cx thres1) (replicate 8 0)
    unfolding lag_at
    lags_are =
        filled_ext (count_above a k (smulwb thres1 (sample a 0))) (replicate 8 0) (λ i h. ap (λ (m : ℕ). 8 + m) (index_is i (omega (arith, count_above_le a k (smulwb thres1 (sample a 0))))))
        ∙ ap (λ (m : ℕ). filled (λ r. 8 + ranked xs r) m (replicate 8 0)) count_is

    pub stage1_goes : zero1 f nb ≡ false → selected a d k thres1 ≡ stage1 f nb cx thres1
    unfolding selected stage1 screened
    stage1_goes z =
        (λ t. cond (lt_z (score_is 0 hp t) (pos 3277)) (stopped Unvoiced) (record { screen = Goes; lags = lags_are t; count = count_is t }))
        ∙ sym (ap (λ (t : Bool). cond t (stopped ZeroDivisor) (screened (scores1 f nb) cx thres1)) z)
