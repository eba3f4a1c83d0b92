-- What the functions of stage 1 say to one another. Nothing here is part of what stage 1 means. Definitions only; the laws are in `ScoreLaws` and `KeptLaws`.
use Rattle.std.specs.Prelude.{Option, Some, None, Bool, cond, List, ℕ, ◌+◌, ◌-◌, ℤ, pos, get_or, replicate}
use Rattle.std.specs.Int.Signed.{lt_z, le_z}
use Rattle.lists.specs.Signal.{sample}
use Rattle.lists.specs.Fill.{tabulate, filled}
use Rattle.best.specs.Best.{some, first_from}
use Rattle.silk_macros.specs.Macros.{smulwb}
use Rattle.silk_macros.specs.Divide.{quotient, by_zero, low16_of}
use Rattle.stage1.specs.Stage1.{Unvoiced, Goes, Stage1, quotient1, zero1, corr1, scores1, place_or, stopped}

-- ---- the correlations

-- the quotient of the i-th lag, from cross-correlations counted from the last lag and divisors counted from the first
abbrev pub quotient_at : List ℤ → List ℤ → ℕ → Option ℤ
quotient_at xs ns i = quotient (sample xs (64 - i)) (sample ns i) (pos 14)

-- their low 16 bits, and none where a divisor is zero
unfoldable pub quotients : List ℤ → List ℤ → Option (List ℤ)
quotients xs ns = cond (some 65 (λ i. by_zero (quotient_at xs ns i))) None (Some (tabulate (λ i. low16_of (quotient_at xs ns i)) 65))

-- a divisor of half-frame h is zero
unfoldable pub zero_in : List ℤ → ℕ → Bool
zero_in f h = some 65 (λ i. by_zero (quotient1 f h (8 + i)))

-- the correlations of half-frame h, and the scores; none where a divisor is zero
unfoldable pub half_frame : List ℤ → ℕ → Option (List ℤ)
half_frame f h = cond (zero_in f h) None (Some (tabulate (λ i. corr1 f h (8 + i)) 65))

unfoldable pub scored : List ℤ → ℕ → Option (List ℤ)
scored f nb = cond (zero1 f nb) None (Some (scores1 f nb))

-- ---- the choice, from the arrays that the sort leaves

-- how many of the first k scores lie, from the front on, above the threshold
unfoldable pub count_above : List ℤ → ℕ → ℤ → ℕ
count_above c k threshold = place_or k (first_from 0 k (λ r. le_z (sample c r) threshold))

-- the answer from the sorted scores c and their indices d, of which the first k are searched
unfoldable pub selected : List ℤ → List ℕ → ℕ → ℤ → Stage1
selected c d k thres1 =
    cond (lt_z (sample c 0) (pos 3277)) (stopped Unvoiced)
    (record {
      screen = Goes;
      lags = filled (λ i. 8 + get_or d i 0) (count_above c k (smulwb thres1 (sample c 0))) (replicate 8 0);
      count = count_above c k (smulwb thres1 (sample c 0));
    })
