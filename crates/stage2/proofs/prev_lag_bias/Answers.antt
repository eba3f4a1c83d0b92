-- `stage2::prev_lag_bias` meets its contract.
use Rattle.std.proofs.Common.{◌≡◌, sym, ap, ◌∙◌, ◌+◌, ◌*◌, arith, ℤ, pos, nat_abs, ◌+ℤ◌, ◌*ℤ◌, w32, SFits, to_z, of_z}
use Rattle.std.specs.Int.Signed.{shr_z, quot_z}
use Rattle.zint.specs.BoundLaws.{abs_fits}
use Rattle.zint.specs.DiffLaws.{v, n as num, ◌⊕◌, sfits_by, zarith}
use Rattle.zint.specs.Wrap.{wrap}
use Rattle.zint.specs.ReadLaws.{Reads, r_var, r_nat, r_lit, r_add, r_call1, r_call2, f_add}
use Rattle.silk_macros.specs.Macros.{smulbb}
use Rattle.stage2.specs.Scores.{prev_bias}
use Rattle.stage2.specs.ScoreLaws.{divisor_is, quot_bias_le}
use Rattle.zint.specs.RuleLaws.{zneeds}
use Rattle.stage2.proofs.prev_lag_bias.Goals as goal

-- the product and the divisor
shifted : (c : goal.After-silk_rshift-prev_lag_bias_q13) → Reads w32 (of_z w32 c.silk_rshift-prev_lag_bias_q13.result) (shr_z (smulbb (pos (c.args.nb_subfr * 1638)) c.args.prev_corr) 32768)
shifted c =
    let m = c.silk_smulbb in
    r_call1 w32 (λ (x : ℤ). shr_z x 32768) c.silk_rshift-prev_lag_bias_q13.type_inv (r_call2 w32 smulbb m.type_inv (r_nat w32 (c.args.nb_subfr * 1638) (omega arith)) (r_var c.ranges.prev_corr) m.ensures) c.silk_rshift-prev_lag_bias_q13.ensures

product : (c : goal.After-silk_mul) → Reads w32 (of_z w32 c.silk_mul.result) (wrap w32 (shr_z (smulbb (pos (c.args.nb_subfr * 1638)) c.args.prev_corr) 32768 *ℤ c.args.delta_lag_log2_sqr_q7))
product c =
    r_call2 w32 (λ (x y : ℤ). wrap w32 (x *ℤ y)) c.silk_mul.type_inv (shifted c.before) (r_var c.ranges.delta_lag_log2_sqr_q7) c.silk_mul.ensures

more-fits : (s : goal.Start) → SFits w32 (s.args.delta_lag_log2_sqr_q7 +ℤ pos 64)
more-fits s = let h = s.requires.1 in sfits_by w32 (v s.args.delta_lag_log2_sqr_q7 ⊕ num 64) (omega zarith) (omega zarith)

more : (s : goal.Start) → Reads w32 (of_z w32 (to_z w32 (of_z w32 s.args.delta_lag_log2_sqr_q7) +ℤ to_z w32 64)) (s.args.delta_lag_log2_sqr_q7 +ℤ pos 64)
more s = r_add (r_var s.ranges.delta_lag_log2_sqr_q7) (r_lit w32 64 tt) (more-fits s)

pub overflow_add-delta_lag_log2_sqr_q7 : goal.overflow_add-delta_lag_log2_sqr_q7
overflow_add-delta_lag_log2_sqr_q7 c = let s = c.before.before.before in f_add (r_var s.ranges.delta_lag_log2_sqr_q7) (r_lit w32 64 tt) (more-fits s)

pub silk_div32-requires : goal.silk_div32-requires
silk_div32-requires c =
    let s = c.before.before.before in
    let z = s.args.delta_lag_log2_sqr_q7 in
    let p = product c in
    let e = divisor_is z s.requires.1.0 in
    rw (p.val, (more s).val)
    (λ k. let n : nat_abs z + 64 ≡ 0 = ap nat_abs (sym e ∙ k) in omega arith, abs_fits _ tt (quot_bias_le _ z p.fit s.requires.1.0))

pub returns : goal.returns
unfolding prev_bias
returns c = (r_call2 w32 quot_z c.silk_div32.type_inv (product c.before) (more c.before.before.before.before) c.silk_div32.ensures).val

pub overflow_mul-nb_subfr : goal.overflow_mul-nb_subfr
overflow_mul-nb_subfr c = search zneeds

pub overflow_cast-nb_subfr : goal.overflow_cast-nb_subfr
overflow_cast-nb_subfr c = search zneeds

pub silk_smulbb-requires : goal.silk_smulbb-requires
silk_smulbb-requires c = search zneeds

pub silk_rshift-prev_lag_bias_q13-requires : goal.silk_rshift-prev_lag_bias_q13-requires
silk_rshift-prev_lag_bias_q13-requires c = search zneeds

pub silk_mul-requires : goal.silk_mul-requires
silk_mul-requires c = search zneeds
