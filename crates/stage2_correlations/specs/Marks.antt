-- The lags of stage 2, at 8 kHz, that the lags kept by stage 1, at 4 kHz, mark. Definitions only; the laws are in `MarkLaws`.
use Rattle.std.specs.Prelude.{Bool, ◌&&◌, List, ℕ, ◌+◌, ◌*◌, ◌≤◌, ◌<◌, leb, length, get_or}
use Rattle.best.specs.Best.{some}
use Rattle.silk_tables.specs.Tables.{least_lag, greatest_lag}

-- A kept lag L marks v = 2L: d lies from v - below to v + above, for the i-th kept lag; and for some kept lag
unfoldable pub mark_near : List ℕ → ℕ → ℕ → ℕ → ℕ → Bool
mark_near kept below above d i = leb (2 * get_or kept i 0) (d + below) && leb d (2 * get_or kept i 0 + above)

unfoldable pub near : List ℕ → ℕ → ℕ → ℕ → Bool
near kept below above d = some (length kept) (mark_near kept below above d)

-- the same, within the ends
unfoldable pub marked : List ℕ → ℕ → ℕ → ℕ → ℕ → ℕ → Bool
marked kept below above low high d = leb low d && (leb d high && near kept below above d)

-- a listed lag is within 1 of a mark, and within the least and the greatest lag at 8 kHz, 16 to 143
unfoldable pub listed : List ℕ → ℕ → Bool
listed kept d = marked kept 1 1 (least_lag 8) (greatest_lag 8) d

-- a measured lag lies from 2 below a mark to 3 above it, and within 14 to 144
unfoldable pub measured : List ℕ → ℕ → Bool
measured kept d = marked kept 2 3 14 144 d

-- what stage 1 hands over: at most 4 + 2 × 2 lags, each from 8 to 72
pub record Kept (kept : List ℕ) : Type 0 where
  pub few : length kept ≤ 8
  pub low : (i : ℕ) → i < length kept → 8 ≤ get_or kept i 0
  pub high : (i : ℕ) → i < length kept → get_or kept i 0 ≤ 72
