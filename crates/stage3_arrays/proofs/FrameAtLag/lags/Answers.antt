-- `stage3_arrays::FrameAtLag::lags` meets its contract: the range is the subframe's, which lies in the frame.
use Rattle.std.proofs.Common.{◌≡◌, ℕ, ◌+◌, ◌*◌}
use Rattle.silk_tables.specs.Tables.{first_lag, range_count}
use Rattle.stage3_arrays.specs.Arrays.{target3, lag_range}
use Rattle.stage3_arrays.specs.ArrayLaws.{range_in}
use Rattle.stage3_arrays.specs.declared.LagRange.{LagRange}
use Rattle.stage3_arrays.proofs.FrameAtLag.lags.Goals as goal

is_lags : (fs nb cx start k : ℕ) {f n : ℕ} → f ≡ first_lag nb cx k start → n ≡ range_count nb cx k
    → ◌≡◌ {A = LagRange} (record { target = 20 * fs + k * (5 * fs); first = f; len = 5 * fs; count = n }) (lag_range fs nb cx start k)
unfolding target3
is_lags fs nb cx start k e m = λ i. record { target = 20 * fs + k * (5 * fs); first = e i; len = 5 * fs; count = m i }

pub invariant_of-result : goal.invariant_of-result
invariant_of-result c = record { inside = range_in c.args.self.in_frame c.requires (is_lags _ _ _ _ _ c.lag_first.ensures c.lag_count.ensures) }

pub returns-clause-lags : goal.returns-clause-lags
returns-clause-lags c = is_lags _ _ _ _ _ c.lag_first.ensures c.lag_count.ensures
