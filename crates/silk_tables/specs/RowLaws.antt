-- The rows of stage 3's tables are the offsets of their contours: each subframe has 34 with four subframes, and 12 with two, behind which are zeros.
use Rattle.std.specs.Prelude.{◌≡◌, refl, [], ◌++◌, ℕ, zero, suc, ◌<◌, pos, get_or, replicate, take}
use Rattle.std.proofs.Common.{arith}
use Rattle.lists.specs.Fill.{tabulate}
use Rattle.silk_tables.specs.Tables.{offset, cb_lags_stage3, cb_lags_stage3_10_ms}

pub row_20_ms : (k : ℕ) → k < 4 → tabulate (offset 4 k) 34 ≡ get_or cb_lags_stage3 k []
unfolding tabulate offset cb_lags_stage3
row_20_ms zero h = refl
row_20_ms (suc zero) h = refl
row_20_ms (suc (suc zero)) h = refl
row_20_ms (suc (suc (suc zero))) h = refl
row_20_ms (suc (suc (suc (suc m)))) h = absurd (omega arith)

pub padded_10_ms : (k : ℕ) → k < 2 → tabulate (offset 2 k) 34 ≡ get_or cb_lags_stage3_10_ms k [] ++ replicate 22 (pos 0)
unfolding tabulate offset cb_lags_stage3_10_ms
padded_10_ms zero h = refl
padded_10_ms (suc zero) h = refl
padded_10_ms (suc (suc m)) h = absurd (omega arith)

-- its first 12
pub row_10_ms : (k : ℕ) → k < 2 → take 12 (tabulate (offset 2 k) 34) ≡ get_or cb_lags_stage3_10_ms k []
unfolding tabulate offset cb_lags_stage3_10_ms
row_10_ms zero h = refl
row_10_ms (suc zero) h = refl
row_10_ms (suc (suc m)) h = absurd (omega arith)
