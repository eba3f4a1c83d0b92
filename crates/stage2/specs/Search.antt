-- What the functions of stage 2 say to one another: the search from the front, as the code goes. Nothing here is part of what stage 2 means. Definitions only; the laws are in
-- `SearchLaws`.
use Rattle.std.specs.Prelude.{Option, Some, None, ◌≡◌, ◌&&◌, cond, List, [], ℕ, ◌-◌, ◌<◌, ◌≤◌, ℤ, pos, nat_abs, ◌*ℤ◌, get_or}
use Rattle.std.specs.Int.Signed.{lt_z, quot_z}
use Rattle.zint.specs.Minus.{minus}
use Rattle.silk_tables.specs.Tables.{contours2}
use Rattle.stage2_correlations.specs.Marks.{listed}
use Rattle.stage2.specs.Stage2.{Stage2, Unvoiced, Winner, picked}
use Rattle.stage2.specs.declared.Along.{Along}
use Rattle.stage2.specs.declared.BestLag.{BestLag}
use Rattle.stage2.specs.declared.LagSearch.{LagSearch}
use Rattle.stage2.specs.Scores.{best_contour, lag_sum, Search2, threshold2, prev_8khz, score2}

-- ---- what is handed over

-- the correlation of subframe k at the lag d, in an array of rows of the lags 14 to 145
abbrev pub at2 : List (List ℤ) → ℕ → ℕ → ℤ
at2 c k d = get_or (get_or c k []) (d - 14) (pos 0)

-- correlations of 16 bits
pub record SixteenBits (c : ℕ → ℕ → ℤ) (nb : ℕ) : Type 0 where
  pub each : (k d : ℕ) → k < nb → 14 ≤ d → d ≤ 145 → nat_abs (c k d) ≤ 32768

-- what the search goes by, from the settings and the previous lag and correlation; and the search itself, in an array of correlations
abbrev pub lag_search : ℕ → ℕ → ℕ → ℤ → ℤ → ℤ → LagSearch
lag_search fs nb cx thres2 prev corr =
    record { nb = nb; contours = contours2 fs nb cx; thres = threshold2 nb thres2; prev = record { lag = prev_8khz fs prev; correlation = corr } }

abbrev pub search_in : List (List ℤ) → List ℕ → LagSearch → Search2
search_in c kept by =
    record {
      correlations = at2 c;
      kept = kept;
      subframes = by.nb;
      contours = by.contours;
      threshold = by.thres;
      prev_lag = by.prev.lag;
      prev_corr = by.prev.correlation;
    }

-- ---- what is answered

-- a lag's best contour and the sum along it
unfoldable pub along : (ℕ → ℕ → ℤ) → ℕ → ℕ → ℕ → Along
along c nb m d = record { cc = lag_sum c nb m d; contour = best_contour c nb m d }

-- the score of the best lag so far, that of no lag, and its sum
abbrev pub top_of : Option BestLag → ℤ
top_of (Some b) = b.top
top_of None = minus 2147483648

abbrev pub sum_of : Option BestLag → ℤ
sum_of (Some b) = b.cc
sum_of None = pos 0

-- the best lag so far, with one lag more, of which the sum, the contour and the score are known
unfoldable pub considered : Option BestLag → ℕ → ℤ → ℕ → ℤ → ℤ → Option BestLag
considered b d cc j score thres = cond (lt_z thres cc && lt_z (top_of b) score) (Some (record { top = score; cc = cc; lag = d; contour = j })) b

-- the same with the lag d, which counts where it is listed
unfoldable pub best_with : Search2 → ℕ → Option BestLag → Option BestLag
best_with s d b =
    cond (listed s.kept d)
    (considered b d (lag_sum s.correlations s.subframes s.contours d) (best_contour s.correlations s.subframes s.contours d) (score2 s d) s.threshold)
    b

-- the answer from the best of all lags
abbrev pub best_answer : ℕ → Option BestLag → Stage2
best_answer nb (Some b) = Winner b.lag b.contour (quot_z b.cc (pos nb) *ℤ pos 4)
best_answer nb None = Unvoiced

-- the best of all lags: its answer is the search's, and its sum is small
pub record BestOfAll (s : Search2) (b : Option BestLag) : Type 0 where
  pub answer : best_answer s.subframes b ≡ picked s
  pub small : nat_abs (sum_of b) ≤ 131072
