-- `silk_resampler::weighted_output` meets its contract: a chain of calls.
use Rattle.std.proofs.Common.{ap, ◌∙◌, arith, pos, w16, w32, SFits}
use Rattle.zint.specs.Clamp.{sat}
use Rattle.zint.specs.ClampLaws.{sat_fits}
use Rattle.zint.specs.ReadLaws.{r_var, r_elem, r_got, r_call1, r_call2, r_call3, r_cast, f_cast, wide_32}
use Rattle.silk_macros.specs.Macros.{smulwb, smlawb, round_shift}
use Rattle.silk_macros.specs.MacroLaws.{round_shift_is}
use Rattle.lists.specs.Signal.{sample}
use Rattle.silk_resampler.specs.Down23.{weighted, rounded}
use Rattle.silk_resampler.proofs.weighted_output.Goals as goal

pub overflow_cast-shift : goal.overflow_cast-shift
overflow_cast-shift c = record { sfits = omega arith }

pub overflow_cast-result : goal.overflow_cast-result
overflow_cast-result c = f_cast (r_got w32 c.silk_sat16.type_inv c.silk_sat16.ensures) (sat_fits w16 _)

pub returns : goal.returns
unfolding weighted rounded sample
returns c =
    let f = c.ranges in
    let k : SFits w32 (pos c.args.shift) = record { sfits = omega arith } in
    let s = r_call2 w32 smulwb c.silk_smulwb-r0.type_inv (r_elem w32 _ c.silk_smulwb-arg-1.given) (wide_32 f.c) c.silk_smulwb-r0.ensures in
    let t = r_call3 w32 smlawb c.silk_smlawb-r1.type_inv s (r_elem w32 _ c.silk_smlawb-arg-1.given) (wide_32 f.d) c.silk_smlawb-r1.ensures in
    let u = r_call3 w32 smlawb c.silk_smlawb-r2.type_inv t (r_elem w32 _ c.silk_smlawb-arg-2-1.given) (wide_32 f.e) c.silk_smlawb-r2.ensures in
    let v = r_call3 w32 smlawb c.silk_smlawb-res_q6.type_inv u (r_elem w32 _ c.silk_smlawb-arg-3-1.given) (wide_32 f.f) c.silk_smlawb-res_q6.ensures in
    let r = r_call2 w32 round_shift c.silk_rshift_round.type_inv v (r_var k) c.silk_rshift_round.ensures in
    (r_cast (r_call1 w32 (sat w16) c.silk_sat16.type_inv r c.silk_sat16.ensures) (sat_fits w16 _)).val ∙ ap (sat w16) (round_shift_is _ c.args.shift (omega arith) (omega arith))
