-- The listed and the measured lags of stage 2 in words. `MeaningLaws` shows that they are those of `Marks`.
use Rattle.std.specs.Prelude.{Bool, cond, List, [], ◌∷◌, ◌++◌, ℕ, zero, suc, ◌+◌, ◌*◌, ◌≤◌, ◌<◌, length, get_or}
use Rattle.silk_tables.specs.Tables.{least_lag, greatest_lag}

-- a marked lag: it lies within the ends, and from v - below to v + above for the double v of a kept lag
pub record Marked (kept : List ℕ) (below above low high d : ℕ) : Type 0 where
  pub at_least : low ≤ d
  pub at_most : d ≤ high
  pub which : ℕ
  pub is_kept : which < length kept
  pub not_below : 2 * get_or kept which 0 ≤ d + below
  pub not_above : d ≤ 2 * get_or kept which 0 + above

-- a listed lag is within 1 of a mark, and within the least and the greatest lag at 8 kHz, 16 to 143
abbrev pub Listed : List ℕ → ℕ → Type 0
Listed kept d = Marked kept 1 1 (least_lag 8) (greatest_lag 8) d

-- a measured lag lies from 2 below a mark to 3 above it, and within 14 to 144
abbrev pub Measured : List ℕ → ℕ → Type 0
Measured kept d = Marked kept 2 3 14 144 d

-- the numbers below n that pass the test, rising
unfoldable pub passing : ℕ → (ℕ → Bool) → List ℕ
passing zero t = []
passing (suc n) t = passing n t ++ cond (t n) (n ∷ []) []
