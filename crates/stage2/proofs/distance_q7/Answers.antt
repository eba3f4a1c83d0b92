-- `stage2::distance_q7` meets its contract.
use Rattle.std.proofs.Common.{ℤ, ◌-ℤ◌, w32, SFits}
use Rattle.std.specs.Int.Signed.{shr_z}
use Rattle.zint.specs.BoundLaws.{abs_sub, abs_fits}
use Rattle.zint.specs.ReadLaws.{r_var, r_sub, r_call1, r_call2, f_sub}
use Rattle.silk_macros.specs.Macros.{smulbb}
use Rattle.stage2.specs.Scores.{distance}
use Rattle.stage2.proofs.distance_q7.Goals as goal

apart : (c : goal.Start) → SFits w32 (c.args.lag_log2_q7 -ℤ c.args.prev_lag_log2_q7)
apart c = abs_fits (c.args.lag_log2_q7 -ℤ c.args.prev_lag_log2_q7) tt (abs_sub c.args.lag_log2_q7 c.args.prev_lag_log2_q7 c.requires.0 c.requires.1)

pub overflow_sub-delta : goal.overflow_sub-delta
overflow_sub-delta c = f_sub (r_var c.ranges.lag_log2_q7) (r_var c.ranges.prev_lag_log2_q7) (apart c)

pub returns : goal.returns
unfolding distance
returns c =
    let s = c.before.before in
    let d = r_sub (r_var s.ranges.lag_log2_q7) (r_var s.ranges.prev_lag_log2_q7) (apart s) in
    (r_call1 w32 (λ (x : ℤ). shr_z x 128) c.silk_rshift.type_inv (r_call2 w32 smulbb c.silk_smulbb.type_inv d d c.silk_smulbb.ensures) c.silk_rshift.ensures).val
