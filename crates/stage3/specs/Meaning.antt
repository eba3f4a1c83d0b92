-- What stage 3's answer is, in words: the pair is the candidate that scores at least as high as every other and higher than every earlier one or, where there is no
-- candidate, the scaled winner with contour 0; the answer is a zero divisor exactly where a quotient that is reached has one. `MeaningLaws` shows that this holds of the answer
-- and of no other.
use Rattle.std.specs.Prelude.{◌≡◌, List, ◌⊎◌, ℕ, ◌+◌, ◌<◌, ◌≤◌, ℤ, pos, ◌+ℤ◌, ◌≤ℤ◌, ◌<ℤ◌}
use Rattle.silk_tables.specs.Tables.{in_use, offset, least_lag, greatest_lag}
use Rattle.stage3.specs.Pick.{Found, Pair, ZeroDivisor, score}
use Rattle.stage3.specs.Stage3.{cross3, energy3, choice}

-- a lag is tried: it is within 2 of the scaled winner, and within the least and the greatest lag
pub record Tried (fs lag d : ℕ) : Type 0 where
  pub not_below : lag ≤ d + 2
  pub not_above : d ≤ lag + 2
  pub at_least : least_lag fs ≤ d
  pub at_most : d ≤ greatest_lag fs

-- a pair comes earlier: lags rising, then contours
abbrev pub Earlier : ℕ → ℕ → ℕ → ℕ → Type 0
Earlier d' j' d j = (d' < d) ⊎ ((d' ≡ d) × (j' < j))

module _ (w : List ℤ) (fs nb cx lag : ℕ) where
  -- a pair's score
  abbrev pub points : ℕ → ℕ → ℤ
  points d j = score (choice w fs nb cx lag) d j

  -- a candidate: a lag that is tried, a contour in use, a positive cross-correlation, and lag + first offset at most the greatest lag
  pub record Candidate (d j : ℕ) : Type 0 where
    pub tried : Tried fs lag d
    pub used : j < in_use nb cx
    pub positive : pos 0 <ℤ cross3 w fs nb d j
    pub within : (pos d +ℤ offset nb 0 j) ≤ℤ pos (greatest_lag fs)

  -- a quotient that is reached, where the cross-correlation is positive, and has divisor zero
  pub record ZeroReached (d j : ℕ) : Type 0 where
    pub tried : Tried fs lag d
    pub used : j < in_use nb cx
    pub positive : pos 0 <ℤ cross3 w fs nb d j
    pub no_energy : energy3 w fs nb cx lag d j ≡ pos 0

  -- the candidate that scores at least as high as every other and higher than every earlier one
  pub record BestPair (d j : ℕ) : Type 0 where
    pub candidate : Candidate d j
    pub highest : (d' j' : ℕ) → Candidate d' j' → points d' j' ≤ℤ points d j
    pub first : (d' j' : ℕ) → Candidate d' j' → Earlier d' j' d j → points d' j' <ℤ points d j

  abbrev pub Meaning : Found → Type 0
  Meaning (Pair d j) =
      ((d' j' : ℕ) → ZeroReached d' j' → ⊥)
      × (BestPair d j ⊎ (((d' j' : ℕ) → Candidate d' j' → ⊥) × (d ≡ lag) × (j ≡ 0)))
  Meaning ZeroDivisor = (d : ℕ) × (j : ℕ) × ZeroReached d j
