-- Stage 3's choice of a pair, a lag d and a contour j, by comparison with all others.
use Rattle.std.specs.Prelude.{Option, Some, None, Bool, ◌&&◌, cond, ℕ, ◌+◌, ◌-◌, ◌*◌, ◌/◌, ◌%◌, min, max, ℤ, pos, ◌+ℤ◌, ◌-ℤ◌, ◌*ℤ◌}
use Rattle.std.specs.Int.Signed.{lt_z, le_z, quot_z}
use Rattle.silk_macros.specs.Macros.{smulwb}
use Rattle.silk_macros.specs.Divide.{quotient, by_zero}
use Rattle.silk_tables.specs.Tables.{in_use, offset, least_lag, greatest_lag}
use Rattle.best.specs.Best.{some, Place, none, at, best}
use Rattle.stage3.specs.declared.LagContour.{LagContour}

-- what stage 3 answers: the lag and the contour, or that a quotient it takes has divisor zero
pub data Found : Type 0 where
  Pair : ℕ → ℕ → Found
  ZeroDivisor : Found

-- the code's answer
abbrev pub answer_of : Option LagContour → Found
answer_of (Some p) = Pair p.lag p.contour
answer_of None = ZeroDivisor

-- what stage 3 chooses from: the rate, the subframe count, the complexity, the scaled winner of stage 2, and of every pair of a lag d and a contour j the summed
-- cross-correlation and the summed energy
pub record Choice : Type 0 where
  pub fs : ℕ
  pub nb : ℕ
  pub cx : ℕ
  pub lag : ℕ
  pub cross : ℕ → ℕ → ℤ
  pub energy : ℕ → ℕ → ℤ

-- ---- the lags tried: within 2 of the scaled winner and within the least and the greatest lag, rising from the first

unfoldable pub first_tried : ℕ → ℕ → ℕ
first_tried fs lag = max (lag - 2) (least_lag fs)

unfoldable pub last_tried : ℕ → ℕ → ℕ
last_tried fs lag = min (lag + 2) (greatest_lag fs)

unfoldable pub tried : ℕ → ℕ → ℕ
tried fs lag = last_tried fs lag + 1 - first_tried fs lag

-- ---- the quotient at Q14, with a zero divisor as an answer of its own, and the score

abbrev pub quotient_of : ℤ → ℤ → Option ℤ
quotient_of c e = quotient c e (pos 14)

-- a contour is marked down by 1638 / lag, its number of times
unfoldable pub bias_of : ℕ → ℤ
bias_of lag = quot_z (pos 1638) (pos lag)

unfoldable pub biased : ℤ → ℤ → ℕ → ℤ
biased q bias j = smulwb q (pos 32767 -ℤ bias *ℤ pos j)

abbrev pub score_of : ℕ → ℕ → Option ℤ → ℤ
score_of lag j (Some q) = biased q (bias_of lag) j
score_of lag j None = pos 0

-- ---- the pairs, by their number p: lags rising, then contours

abbrev pub used_in : Choice → ℕ
used_in c = in_use c.nb c.cx

unfoldable pub lag_no : Choice → ℕ → ℕ
lag_no c p = first_tried c.fs c.lag + p / used_in c

unfoldable pub contour_no : Choice → ℕ → ℕ
contour_no c p = p % used_in c

unfoldable pub pair_count : Choice → ℕ
pair_count c = tried c.fs c.lag * used_in c

-- the pair at a place; where there is none, the scaled winner with contour 0
abbrev pub pair_at : Choice → Place → Found
pair_at c none = Pair c.lag 0
pair_at c (at p) = Pair (lag_no c p) (contour_no c p)

-- ---- a pair's standing

-- a quotient is reached where the cross-correlation is positive, whatever the lag; it has divisor zero
unfoldable pub zero_reached3 : Choice → ℕ → ℕ → Bool
zero_reached3 c d j = lt_z (pos 0) (c.cross d j) && by_zero (quotient_of (c.cross d j) (c.energy d j))

-- the lag d moved by the first subframe's offset is at most the greatest lag
abbrev pub reached : ℕ → ℕ → ℕ → ℕ → Bool
reached fs nb d j = le_z (pos d +ℤ offset nb 0 j) (pos (greatest_lag fs))

-- a candidate: a positive cross-correlation, and within that reach
unfoldable pub candidate : Choice → ℕ → ℕ → Bool
candidate c d j = lt_z (pos 0) (c.cross d j) && reached c.fs c.nb d j

unfoldable pub score : Choice → ℕ → ℕ → ℤ
score c d j = score_of c.lag j (quotient_of (c.cross d j) (c.energy d j))

-- the same by a pair's number
abbrev pub zero_no : Choice → ℕ → Bool
zero_no c p = zero_reached3 c (lag_no c p) (contour_no c p)

abbrev pub candidate_no : Choice → ℕ → Bool
candidate_no c p = candidate c (lag_no c p) (contour_no c p)

abbrev pub score_no : Choice → ℕ → ℤ
score_no c p = score c (lag_no c p) (contour_no c p)

-- ---- the pick: a zero divisor where a reached quotient has one; else the first candidate that no candidate outdoes

abbrev pub zero3 : Choice → Bool
zero3 c = some (pair_count c) (zero_no c)

abbrev pub best3 : Choice → Place
best3 c = best (pair_count c) (candidate_no c) (score_no c)

unfoldable pub pick : Choice → Found
pick c = cond (zero3 c) ZeroDivisor (pair_at c (best3 c))
