-- What stage 2's answer is, in words: a zero divisor where a divisor that is reached is zero; unvoiced where none is and no lag passes; otherwise the passing lag that scores at
-- least as high as every other and higher than every lower one, with its first contour of greatest sum. `MeaningLaws` shows that this holds of the answer and of no other.
use Rattle.std.specs.Prelude.{◌≡◌, List, ℕ, ◌<◌, ℤ, pos, ◌*ℤ◌, ◌≤ℤ◌, ◌<ℤ◌}
use Rattle.std.specs.Int.Signed.{quot_z}
use Rattle.stage2_correlations.specs.Meaning.{Listed, Measured}
use Rattle.stage2_correlations.specs.Correlations.{cross2, divisor2}
use Rattle.stage2.specs.Stage2.{Stage2, ZeroDivisor, Unvoiced, Winner, search_of}
use Rattle.stage2.specs.Scores.{contour_sum, lag_sum, Search2, score2}

-- a divisor is reached, and it is zero: a lag that is measured, and a positive cross-correlation
pub record ZeroReached2 (e : List ℤ) (kept : List ℕ) (nb k d : ℕ) : Type 0 where
  pub subframe : k < nb
  pub measures : Measured kept d
  pub positive : pos 0 <ℤ cross2 e k d
  pub is_zero : divisor2 e k d ≡ pos 0

abbrev pub NoZero2 : List ℤ → List ℕ → ℕ → Type 0
NoZero2 e kept nb = (k d : ℕ) → ZeroReached2 e kept nb k d → ⊥

-- the words of a search
module _ (s : Search2) where
  -- the sum along contour j
  abbrev pub sum_along : ℕ → ℕ → ℤ
  sum_along d j = contour_sum s.correlations s.subframes d j

  -- the first contour with the greatest sum
  pub record FirstContour (d j : ℕ) : Type 0 where
    pub tried : j < s.contours
    pub highest : (j' : ℕ) → j' < s.contours → sum_along d j' ≤ℤ sum_along d j
    pub first : (j' : ℕ) → j' < j → sum_along d j' <ℤ sum_along d j

  -- a lag passes: it is listed, and its sum is above the threshold
  pub record Passes (d : ℕ) : Type 0 where
    pub lists : Listed s.kept d
    pub above : s.threshold <ℤ lag_sum s.correlations s.subframes s.contours d

  -- the winner by the biased scores: its contour and its correlation with it
  pub record Wins (d j : ℕ) (r : ℤ) : Type 0 where
    pub passes_so : Passes d
    pub highest : (d' : ℕ) → Passes d' → score2 s d' ≤ℤ score2 s d
    pub first : (d' : ℕ) → Passes d' → d' < d → score2 s d' <ℤ score2 s d
    pub contour : FirstContour d j
    pub correlates : r ≡ quot_z (sum_along d j) (pos s.subframes) *ℤ pos 4

-- the answer's words
module _ (e : List ℤ) (kept : List ℕ) (fs nb cx : ℕ) (thres2 prev corr : ℤ) where
  abbrev pub Meaning2 : Stage2 → Type 0
  Meaning2 ZeroDivisor = (k : ℕ) × (d : ℕ) × ZeroReached2 e kept nb k d
  Meaning2 Unvoiced = NoZero2 e kept nb × ((d : ℕ) → Passes (search_of e kept fs nb cx thres2 prev corr) d → ⊥)
  Meaning2 (Winner d j r) = NoZero2 e kept nb × Wins (search_of e kept fs nb cx thres2 prev corr) d j r
