-- What callers use of stage 1's answer: its way in numbers; the lags that go on are the front of its array, at most eight, within 8 to 72, and all different.
use Rattle.std.specs.Prelude.{refl, Bool, cond, List, [], ℕ, ◌≤◌, ◌<◌, ℤ, pos, length, get_or, drop, take, replicate, ◌≡◌, true, false}
use Rattle.std.proofs.Common.{sym, ap, ◌∙◌, subst, arith, take_at}
use Rattle.std.specs.Int.Signed.{lt_z}
use Rattle.answers.specs.Answer.{answer_numbers}
use Rattle.lists.specs.Fill.{tabulate, filled}
use Rattle.lists.specs.FillLaws.{get_d_tabulate, length_tabulate, length_filled}
use Rattle.stage1.specs.Stage1.{ZeroDivisor, Unvoiced, Goes, Stage1, zero1, scores1, lag_at, score_at, kept_count, stopped, screened, stage1, screen_numbers, screen_number, kept_lags}
use Rattle.stage1.specs.Meaning.{Lag, place1}
use Rattle.stage1.specs.KeptLaws.{search_length_few}
use Rattle.stage1.specs.PlaceLaws.{lag_is, place_at, scan}

-- the answer's way in numbers
pub screen_in_numbers : (f : List ℤ) (nb cx : ℕ) (thres1 : ℤ) → screen_numbers (stage1 f nb cx thres1).screen ≡ answer_numbers (screen_number f nb) []
unfolding stage1 screened stopped screen_number
screen_in_numbers f nb cx thres1 = by (zero1 f nb) (lt_z (score_at (scores1 f nb) 0) (pos 3277))
  where
    going : Stage1
    going = record { screen = Goes; lags = filled (lag_at (scores1 f nb)) (kept_count (scores1 f nb) cx thres1) (replicate 8 0); count = kept_count (scores1 f nb) cx thres1 }

    by : (t u : Bool) → screen_numbers (cond t (stopped ZeroDivisor) (cond u (stopped Unvoiced) going)).screen ≡ answer_numbers (cond t 2 (cond u 1 0)) []
    by true u = refl
    by false true = refl
    by false false = refl

module _ (f : List ℤ) (nb cx : ℕ) (thres1 : ℤ) where
  abbrev xs : List ℤ
  xs = scores1 f nb

  abbrev n : ℕ
  n = kept_count xs cx thres1

  pub length_kept : length (kept_lags f nb cx thres1) ≡ kept_count (scores1 f nb) cx thres1
  unfolding kept_lags
  length_kept = length_tabulate (lag_at xs) n

  kept_at : (i : ℕ) → i < n → get_or (kept_lags f nb cx thres1) i 0 ≡ lag_at xs i
  unfolding kept_lags
  kept_at i h = get_d_tabulate (lag_at xs) n i 0 h

  module _ (small : cx < 3) where
    few : n ≤ 8
    few = omega (arith, (scan f nb cx thres1).within, search_length_few small)

    pub kept_few : length (kept_lags f nb cx thres1) ≤ 8
    kept_few = omega (arith, length_kept, few)

    pub kept_lag : (i : ℕ) → i < length (kept_lags f nb cx thres1) → Lag (get_or (kept_lags f nb cx thres1) i 0)
    kept_lag i h =
        let l : i < n = omega (arith, length_kept) in
        subst Lag (sym (kept_at i l)) (lag_is f nb i (omega (arith, few)))

    pub kept_low : (i : ℕ) → i < length (kept_lags f nb cx thres1) → 8 ≤ get_or (kept_lags f nb cx thres1) i 0
    kept_low i h = (kept_lag i h).at_least

    pub kept_high : (i : ℕ) → i < length (kept_lags f nb cx thres1) → get_or (kept_lags f nb cx thres1) i 0 ≤ 72
    kept_high i h = (kept_lag i h).at_most

    pub kept_distinct : (i j : ℕ) → i < length (kept_lags f nb cx thres1) → j < length (kept_lags f nb cx thres1) → get_or (kept_lags f nb cx thres1) i 0 ≡ get_or (kept_lags f nb cx thres1) j 0 → i ≡ j
    kept_distinct i j h k e =
        let l : i < n = omega (arith, length_kept) in
        let m : j < n = omega (arith, length_kept) in
        sym (place_at f nb i (omega (arith, few))) ∙ ap (place1 f nb) (sym (kept_at i l) ∙ e ∙ kept_at j m) ∙ place_at f nb j (omega (arith, few))

    -- the array and its count
    abbrev going : Stage1
    going = record { screen = Goes; lags = filled (lag_at xs) n (replicate 8 0); count = n }

    abbrev either : Bool → Bool → Stage1
    either t u = cond t (stopped ZeroDivisor) (cond u (stopped Unvoiced) going)

    size_of : (t u : Bool) → length (either t u).lags ≡ 8
    unfolding stopped
    size_of true u = omega arith
    size_of false true = omega arith
    size_of false false = length_filled (lag_at xs) n (replicate 8 0) few

    count_of : (t u : Bool) → (either t u).count ≤ 8
    unfolding stopped
    count_of true u = omega arith
    count_of false true = omega arith
    count_of false false = few

    front_of : (t u : Bool) → (either t u).screen ≡ Goes → take (either t u).count (either t u).lags ≡ kept_lags f nb cx thres1
    unfolding stopped kept_lags filled
    front_of true u e = let z : ◌≡◌ {A = ℕ} 0 1 = cc in absurd (omega arith)
    front_of false true e = let z : ◌≡◌ {A = ℕ} 0 1 = cc in absurd (omega arith)
    front_of false false e = take_at (tabulate (lag_at xs) n) (drop n (replicate 8 0)) n (length_tabulate (lag_at xs) n)

    pub answer_size : length (stage1 f nb cx thres1).lags ≡ 8
    unfolding stage1 screened
    answer_size = size_of (zero1 f nb) (lt_z (score_at xs 0) (pos 3277))

    pub answer_count : (stage1 f nb cx thres1).count ≤ 8
    unfolding stage1 screened
    answer_count = count_of (zero1 f nb) (lt_z (score_at xs 0) (pos 3277))

    pub answer_kept : (stage1 f nb cx thres1).screen ≡ Goes → take (stage1 f nb cx thres1).count (stage1 f nb cx thres1).lags ≡ kept_lags f nb cx thres1
    unfolding stage1 screened
    answer_kept = front_of (zero1 f nb) (lt_z (score_at xs 0) (pos 3277))
