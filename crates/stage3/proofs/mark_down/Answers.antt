-- `stage3::mark_down` meets its contract.
use Rattle.std.proofs.Common.{pos, ◌-ℤ◌, ◌*ℤ◌, w32, SFits, to_z, of_z, arith}
use Rattle.zint.specs.ReadLaws.{Reads, r_var, r_nat, r_lit, r_mul, r_sub, r_call2, f_mul, f_sub}
use Rattle.silk_macros.specs.Macros.{smulwb}
use Rattle.stage3.specs.Pick.{biased}
use Rattle.stage3.specs.PickLaws.{product_fits, diff_fits}
use Rattle.stage3.proofs.mark_down.Goals as goal

-- the contour's number, and the bias times it
module _ (s : goal.Start) where
  number : Reads w32 s.args.j (pos s.args.j)
  number = r_nat w32 s.args.j (omega arith)

  small : SFits w32 (s.args.contour_bias_q15 *ℤ pos s.args.j)
  small = product_fits s.args.contour_bias_q15 s.args.j s.requires.0 s.requires.1.0 s.requires.1.1

  product : Reads w32 (of_z w32 (to_z w32 (of_z w32 s.args.contour_bias_q15) *ℤ to_z w32 s.args.j)) (s.args.contour_bias_q15 *ℤ pos s.args.j)
  product = r_mul (r_var s.ranges.contour_bias_q15) number small

  rest : SFits w32 (pos 32767 -ℤ s.args.contour_bias_q15 *ℤ pos s.args.j)
  rest = diff_fits s.args.contour_bias_q15 s.args.j s.requires.0 s.requires.1.0 s.requires.1.1

pub overflow_mul-diff : goal.overflow_mul-diff
overflow_mul-diff c = f_mul (r_var c.ranges.contour_bias_q15) (number c) (small c)

pub overflow_sub-diff : goal.overflow_sub-diff
overflow_sub-diff c = f_sub (r_lit w32 32767 tt) (product c) (rest c)

pub returns : goal.returns
unfolding biased
returns c =
    let s = c.before in
    (r_call2 w32 smulwb c.silk_smulwb.type_inv (r_var s.ranges.cc_max_new) (r_sub (r_lit w32 32767 tt) (product s) (rest s)) c.silk_smulwb.ensures).val
