-- `silk_resampler::down2_step` meets its contract.
use Rattle.std.proofs.Common.{◌∙◌, ℤ, ◌+ℤ◌, ◌-ℤ◌, w16, w32}
use Rattle.std.proofs.Math.IntN.{+ℤ_assoc}
use Rattle.zint.specs.Clamp.{sat}
use Rattle.zint.specs.ClampLaws.{sat_fits}
use Rattle.zint.specs.ReadLaws.{r_var, r_lit, r_neg, r_got, r_call1, r_call2, r_call3, r_cast, r_shl, wide_32, f_cast}
use Rattle.silk_macros.specs.Macros.{smulwb, smlawb, rshift_round}
use Rattle.silk_resampler.specs.Down2.{even_part, odd_part, even_next, odd_next, half_of}
use Rattle.zint.specs.Wrap.{wrap}
use Rattle.zint.specs.WrapLaws.{wraps}
use Rattle.silk_resampler.proofs.down2_step.Goals as goal

abbrev add : ℤ → ℤ → ℤ
add p q = wrap w32 (p +ℤ q)

abbrev sub : ℤ → ℤ → ℤ
sub p q = wrap w32 (p -ℤ q)

pub overflow_cast-out : goal.overflow_cast-out
overflow_cast-out c = f_cast (r_got w32 c.silk_sat16-out.type_inv c.silk_sat16-out.ensures) (sat_fits w16 _)

pub returns : goal.returns
unfolding even_next odd_next half_of even_part odd_part
returns c =
    let f = c.ranges in
    let i = r_shl 1024 (wide_32 f.a) in
    let y = r_call2 w32 sub c.wrapping_sub_i32-y0.type_inv i (r_var f.s0) c.wrapping_sub_i32-y0.ensures in
    let x = r_call3 w32 smlawb c.silk_smlawb-x0.type_inv y y (r_neg w32 25726 tt) c.silk_smlawb-x0.ensures in
    let o = r_call2 w32 add c.wrapping_add_i32-o0.type_inv (r_var f.s0) x c.wrapping_add_i32-o0.ensures in
    let n = r_call2 w32 add c.wrapping_add_i32-n0.type_inv i x c.wrapping_add_i32-n0.ensures in
    let j = r_shl 1024 (wide_32 f.b) in
    let z = r_call2 w32 sub c.wrapping_sub_i32-y1.type_inv j (r_var f.s1) c.wrapping_sub_i32-y1.ensures in
    let u = r_call2 w32 smulwb c.silk_smulwb-x1.type_inv z (r_lit w32 9872 tt) c.silk_smulwb-x1.ensures in
    let p = r_call2 w32 add c.wrapping_add_i32-o1.type_inv o (r_var f.s1) c.wrapping_add_i32-o1.ensures in
    let q = r_call2 w32 add c.wrapping_add_i32-o2.type_inv p u c.wrapping_add_i32-o2.ensures in
    let m = r_call2 w32 add c.wrapping_add_i32-n1.type_inv j u c.wrapping_add_i32-n1.ensures in
    let r = r_call1 w32 (λ (t : ℤ). rshift_round t 11) c.silk_rshift_round.type_inv q c.silk_rshift_round.ensures in
    let t = r_call1 w32 (sat w16) c.silk_sat16-out.type_inv r c.silk_sat16-out.ensures in
    (n.val ∙ simp wraps, m.val ∙ simp wraps, (r_cast t (sat_fits w16 _)).val ∙ simp (wraps, +ℤ_assoc))
