-- Stage 2's correlations, of the 8 kHz signal e, by subframe k and lag d; kept are the lags that stage 1 kept. Definitions only; the laws are in `RowLaws`.
use Rattle.std.specs.Prelude.{Option, Bool, ◌&&◌, cond, List, ℕ, ◌+◌, ◌-◌, ◌*◌, ◌/◌, ◌%◌, ℤ, pos, ◌+ℤ◌, drop}
use Rattle.std.specs.Int.Signed.{lt_z}
use Rattle.std.specs.Int.{w32}
use Rattle.zint.specs.Wrap.{wrap}
use Rattle.best.specs.Best.{some}
use Rattle.silk_macros.specs.Divide.{quotient, by_zero, low16_of}
use Rattle.silk_sigproc.specs.Dot.{dot, energy_sum}
use Rattle.stage2_correlations.specs.Marks.{measured}

-- where subframe k starts: 20 ms of history, then subframes of 5 ms
unfoldable pub target2 : ℕ → ℕ
target2 k = 160 + 40 * k

-- ---- the sums in whole numbers

-- the products of the subframe's 40 samples with those d earlier
unfoldable pub cross_sum2 : List ℤ → ℕ → ℕ → ℤ
cross_sum2 e k d = dot (drop (target2 k) e) (drop (target2 k - d) e) 40

-- the energy of the subframe, with the 1 that the source adds to it, and that of the samples d earlier
unfoldable pub target_energy2 : List ℤ → ℕ → ℤ
target_energy2 e k = energy_sum e (target2 k) 40 +ℤ pos 1

unfoldable pub basis_energy2 : List ℤ → ℕ → ℕ → ℤ
basis_energy2 e k d = energy_sum e (target2 k - d) 40

unfoldable pub divisor_sum2 : List ℤ → ℕ → ℕ → ℤ
divisor_sum2 e k d = target_energy2 e k +ℤ basis_energy2 e k d

-- ---- what is divided: the sums, wrapped to 32 bits

unfoldable pub cross2 : List ℤ → ℕ → ℕ → ℤ
cross2 e k d = wrap w32 (cross_sum2 e k d)

unfoldable pub divisor2 : List ℤ → ℕ → ℕ → ℤ
divisor2 e k d = wrap w32 (divisor_sum2 e k d)

-- the quotient at Q14, or a zero divisor
unfoldable pub quotient2 : List ℤ → ℕ → ℕ → Option ℤ
quotient2 e k d = quotient (cross2 e k d) (divisor2 e k d) (pos 14)

-- A lag that is not measured has correlation 0. A measured one has the quotient's low 16 bits where the cross-correlation is positive, else 0: only there is the quotient reached
unfoldable pub correlation2 : List ℤ → List ℕ → ℕ → ℕ → ℤ
correlation2 e kept k d = cond (measured kept d) (cond (lt_z (pos 0) (cross2 e k d)) (low16_of (quotient2 e k d)) (pos 0)) (pos 0)

-- the quotient of the subframe k and the lag d is reached, and its divisor is zero
unfoldable pub zero_reached2 : List ℤ → List ℕ → ℕ → ℕ → Bool
zero_reached2 e kept k d = measured kept d && (lt_z (pos 0) (cross2 e k d) && by_zero (quotient2 e k d))

-- ---- the divisors by number, in the source's order: subframes, and in each the lags 14 to 144 rising, of which those that are not measured are passed over

unfoldable pub divisors2 : ℕ → ℕ
divisors2 nb = nb * 131

unfoldable pub subframe_no : ℕ → ℕ
subframe_no p = p / 131

unfoldable pub lag_no2 : ℕ → ℕ
lag_no2 p = 14 + p % 131

-- some quotient that is reached has divisor zero
unfoldable pub zero2 : List ℤ → List ℕ → ℕ → Bool
zero2 e kept nb = some (divisors2 nb) (λ p. zero_reached2 e kept (subframe_no p) (lag_no2 p))
