-- `stage2::biased_score` meets its contract.
use Rattle.std.proofs.Common.{◌≡◌, ◌∙◌, ℕ, ◌*◌, ◌≤◌, ◌<◌, arith, ℤ, pos, nat_abs, ◌-ℤ◌, w32, SFits, to_z, of_z, rules}
use Rattle.std.specs.Int.Signed.{mag, shr_z}
use Rattle.zint.specs.BoundLaws.{abs_fits}
use Rattle.zint.specs.ReadLaws.{Reads, r_var, r_nat, r_sub, r_call1, r_call2, f_sub, t_above}
use Rattle.silk_macros.specs.Macros.{smulbb}
use Rattle.silk_macros.specs.Log.{lin2log}
use Rattle.stage2.specs.Scores.{lag_bias, distance, prev_bias}
use Rattle.stage2.specs.ScoreLaws.{log_small, distance_low, distance_high, less_lag_bias, less_prev_bias, biased_yes, biased_no}
use Rattle.stage2.proofs.biased_score.Goals as goal

-- the numbers on the way, and that they fit
module _ (cc : ℤ) (nb d : ℕ) (prev corr : ℤ) where
  abbrev log : ℤ
  log = lin2log (pos d)

  abbrev less : ℤ
  less = cc -ℤ lag_bias nb log

  abbrev far : ℤ
  far = distance log (lin2log prev)

  abbrev near : ℤ
  near = prev_bias nb corr far

  less_fits : nat_abs cc ≤ 131072 → SFits w32 less
  less_fits h = abs_fits less tt (less_lag_bias cc nb d prev corr h)

  all_fits : nat_abs cc ≤ 131072 → SFits w32 (less -ℤ near)
  all_fits h = abs_fits (less -ℤ near) tt (less_prev_bias cc nb d prev corr h)

-- the lag's logarithm, and its bias
log_read : (d : ℕ) {l : ℤ} → d ≤ 143 → mag l < 2147483648 → l ≡ lin2log (to_z w32 d) → Reads w32 (of_z w32 l) (lin2log (pos d))
log_read d h t e = r_call1 w32 lin2log t (r_nat w32 d (omega arith)) e

long_read : (nb d : ℕ) {l m x : ℤ} → nb ≤ 4 → d ≤ 143 → mag l < 2147483648 → l ≡ lin2log (to_z w32 d) → mag m < 2147483648 → m ≡ smulbb (to_z w32 (nb * 410)) (to_z w32 (of_z w32 l)) → mag x < 2147483648
    → x ≡ shr_z (to_z w32 (of_z w32 m)) 128 → Reads w32 (of_z w32 x) (lag_bias nb (lin2log (pos d)))
unfolding lag_bias
long_read nb d h k tl el tm em tx ex = r_call1 w32 (λ (z : ℤ). shr_z z 128) tx (r_call2 w32 smulbb tm (r_nat w32 (nb * 410) (omega arith)) (log_read d k tl el) em) ex

pub overflow_sub-cc_max_new_b : goal.overflow_sub-cc_max_new_b
overflow_sub-cc_max_new_b c =
    let a = c.args in
    let l = c.silk_lin2log-lag_log2_q7 in
    let m = c.silk_smulbb in
    let long = long_read a.nb_subfr a.d c.requires.1.0 c.requires.1.1 l.type_inv l.ensures m.type_inv m.ensures c.silk_rshift.type_inv c.silk_rshift.ensures in
    f_sub (r_var c.ranges.cc) long (less_fits a.cc a.nb_subfr a.d a.prev.lag a.prev.correlation c.requires.0)

pub distance_q7-delta_lag_log2_sqr_q7-requires : goal.distance_q7-delta_lag_log2_sqr_q7-requires
distance_q7-delta_lag_log2_sqr_q7-requires c =
    let a = c.args in
    let l = c.silk_lin2log-lag_log2_q7 in
    let p = c.silk_lin2log-prev_lag_log2_q7 in
    let prev : SFits w32 a.prev.lag = search rules in
    rw ((log_read a.d c.requires.1.1 l.type_inv l.ensures).val, (r_call1 w32 lin2log p.type_inv (r_var prev) p.ensures).val) (log_small (pos a.d), log_small a.prev.lag)

pub prev_lag_bias-requires : goal.prev_lag_bias-requires
prev_lag_bias-requires c =
    let a = c.args in
    let l = c.silk_lin2log-lag_log2_q7 in
    let x = log_read a.d c.requires.1.1 l.type_inv l.ensures in
    let p = c.silk_lin2log-prev_lag_log2_q7 in
    let g = c.distance_q7-delta_lag_log2_sqr_q7 in
    let prev : SFits w32 a.prev.lag = search rules in
    let far = r_call2 w32 distance g.type_inv x (r_call1 w32 lin2log p.type_inv (r_var prev) p.ensures) g.ensures in
    rw far.val (c.requires.1.0, (distance_low _ _, distance_high _ _))

-- the two differences
module _ (c : goal.After-prev_lag_bias) where
  less_read : Reads w32 (of_z w32 (to_z w32 (of_z w32 c.args.cc) -ℤ to_z w32 (of_z w32 c.silk_rshift.result))) (less c.args.cc c.args.nb_subfr c.args.d c.args.prev.lag c.args.prev.correlation)
  less_read =
      let a = c.args in
      let l = c.silk_lin2log-lag_log2_q7 in
      let m = c.silk_smulbb in
      let long = long_read a.nb_subfr a.d c.requires.1.0 c.requires.1.1 l.type_inv l.ensures m.type_inv m.ensures c.silk_rshift.type_inv c.silk_rshift.ensures in
      r_sub (r_var c.ranges.cc) long (less_fits a.cc a.nb_subfr a.d a.prev.lag a.prev.correlation c.requires.0)

  near_read : Reads w32 (of_z w32 c.prev_lag_bias.result) (near c.args.cc c.args.nb_subfr c.args.d c.args.prev.lag c.args.prev.correlation)
  near_read =
      let a = c.args in
      let l = c.silk_lin2log-lag_log2_q7 in
      let x = log_read a.d c.requires.1.1 l.type_inv l.ensures in
      let p = c.silk_lin2log-prev_lag_log2_q7 in
      let g = c.distance_q7-delta_lag_log2_sqr_q7 in
      let prev : SFits w32 a.prev.lag = search rules in
      let far = r_call2 w32 distance g.type_inv x (r_call1 w32 lin2log p.type_inv (r_var prev) p.ensures) g.ensures in
      let corr : SFits w32 a.prev.correlation = search rules in
      r_call2 w32 (prev_bias a.nb_subfr) c.prev_lag_bias.type_inv (r_var corr) far c.prev_lag_bias.ensures

  fits : SFits w32 (less c.args.cc c.args.nb_subfr c.args.d c.args.prev.lag c.args.prev.correlation -ℤ near c.args.cc c.args.nb_subfr c.args.d c.args.prev.lag c.args.prev.correlation)
  fits = all_fits c.args.cc c.args.nb_subfr c.args.d c.args.prev.lag c.args.prev.correlation c.requires.0

pub overflow_sub-result : goal.overflow_sub-result
overflow_sub-result c = f_sub (less_read c) (near_read c) (fits c)

pub returns-then-prev-gt0 : goal.returns-then-prev-gt0
returns-then-prev-gt0 c =
    let prev : SFits w32 c.args.prev.lag = search rules in
    (r_sub (less_read c) (near_read c) (fits c)).val ∙ biased_yes c.args.cc _ _ _ _ c.requires.0 (t_above (pos 0) (r_var prev) c.if-prev-gt0.true)

pub returns-else-prev-gt0 : goal.returns-else-prev-gt0
returns-else-prev-gt0 c =
    let a = c.args in
    let l = c.silk_lin2log-lag_log2_q7 in
    let m = c.silk_smulbb in
    let long = long_read a.nb_subfr a.d c.requires.1.0 c.requires.1.1 l.type_inv l.ensures m.type_inv m.ensures c.silk_rshift.type_inv c.silk_rshift.ensures in
    let prev : SFits w32 a.prev.lag = search rules in
    (r_sub (r_var c.ranges.cc) long (less_fits a.cc a.nb_subfr a.d a.prev.lag a.prev.correlation c.requires.0)).val ∙ biased_no a.cc _ _ _ _ c.requires.0 (t_above (pos 0) (r_var prev) c.if-prev-gt0.false)
