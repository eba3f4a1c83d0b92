-- What the functions of a subframe answer, over any marks: a ratio and a lag's correlation, none where a divisor that is reached is zero,
-- and the row of the lags 14 to 145, an error's where some is.
-- Nothing here is part of what stage 2 means.
use Rattle.std.specs.Prelude.{Option, Some, option_map, Result, Ok, Err, Bool, false, ◌&&◌, cond, List, ℕ, ◌+◌, ◌-◌, ℤ, pos, drop, get_or}
use Rattle.std.specs.Int.Signed.{lt_z}
use Rattle.std.specs.Int.{w16, w32}
use Rattle.zint.specs.Wrap.{wrap}
use Rattle.lists.specs.Fill.{tabulate}
use Rattle.best.specs.Best.{some}
use Rattle.silk_macros.specs.Divide.{quotient, by_zero, low16_of}
use Rattle.silk_sigproc.specs.Dot.{dot}
use Rattle.stage2_correlations.specs.Correlations.{cross2, quotient2}

-- a quotient where the test holds: its low 16 bits, and none by zero
abbrev pub reached_ratio : Bool → Option ℤ → Option ℤ
reached_ratio t q = cond t (option_map (wrap w16) q) (Some (pos 0))

unfoldable pub ratio_of : ℤ → ℤ → Option ℤ
ratio_of x n = reached_ratio (lt_z (pos 0) x) (quotient x n (pos 14))

unfoldable pub at_lag : Bool → List ℤ → ℕ → ℕ → ℤ → Option ℤ
at_lag m e t d n = cond m (ratio_of (wrap w32 (dot (drop t e) (drop (t - d) e) 40)) n) (Some (pos 0))

-- the i-th lag's correlation, and whether its divisor is reached and zero
abbrev pub value_at : List ℤ → List Bool → ℕ → ℕ → ℤ
value_at e m k i = cond (get_or m i false) (cond (lt_z (pos 0) (cross2 e k (14 + i))) (low16_of (quotient2 e k (14 + i))) (pos 0)) (pos 0)

abbrev pub zero_at : List ℤ → List Bool → ℕ → ℕ → Bool
zero_at e m k i = get_or m i false && (lt_z (pos 0) (cross2 e k (14 + i)) && by_zero (quotient2 e k (14 + i)))

-- numbers, as an error's where the test holds
abbrev pub row_by : Bool → List ℤ → Result (List ℤ) (List ℤ)
row_by t c = cond t (Err c) (Ok c)

unfoldable pub subframe_row : List ℤ → List Bool → ℕ → Result (List ℤ) (List ℤ)
subframe_row e m k = row_by (some 132 (zero_at e m k)) (tabulate (value_at e m k) 132)
