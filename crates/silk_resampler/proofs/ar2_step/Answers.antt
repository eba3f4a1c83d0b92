-- `silk_resampler::ar2_step` meets its contract: a chain of calls.
use Rattle.std.proofs.Common.{◌∙◌, ℕ, ◌<◌, ℤ, pos, ◌+ℤ◌, ◌*ℤ◌, w32, SFits}
use Rattle.zint.specs.ReadLaws.{r_var, r_as, r_call2, r_shl, wide_32}
use Rattle.zint.specs.Wrap.{wrap}
use Rattle.zint.specs.WrapLaws.{wraps}
use Rattle.silk_macros.specs.Macros.{smulwb}
use Rattle.silk_resampler.specs.Down23.{filter_numbers, ar2_out, feedback}
use Rattle.silk_resampler.specs.Down23Laws.{first_words}
use Rattle.silk_resampler.proofs.ar2_step.Goals as goal

abbrev add : ℤ → ℤ → ℤ
add p q = wrap w32 (p +ℤ q)

abbrev mul : ℤ → ℤ → ℤ
mul p q = wrap w32 (p *ℤ q)

number_fits : (k : ℕ) → k < 2147483648 → SFits w32 (pos k)
number_fits k h = record { sfits = h }

pub overflow_cast-filter : goal.overflow_cast-filter
overflow_cast-filter c = number_fits _ c.args.filter.factor_fits

pub overflow_cast-filter-2 : goal.overflow_cast-filter-2
overflow_cast-filter-2 c = number_fits _ c.args.filter.adds_fits

pub returns : goal.returns
unfolding ar2_out feedback
returns c =
    let p = c.before.before.before.before.before.before in
    let z = p.before.before.before in
    let f = z.ranges in
    let a = z.args in
    let r = r_call2 w32 add p.wrapping_add_i32-out.type_inv (r_var f.s0) (r_shl 256 (wide_32 f.x)) p.wrapping_add_i32-out.ensures in
    let o = r_as {b = ar2_out a.s0 a.x} r (simp wraps) in
    let fed = r_call2 w32 mul p.wrapping_mul_i32-fed.type_inv o (r_var (number_fits a.filter.factor a.filter.factor_fits)) p.wrapping_mul_i32-fed.ensures in
    let itself = r_call2 w32 mul c.wrapping_mul_i32.type_inv o (r_var (number_fits a.filter.adds a.filter.adds_fits)) c.wrapping_mul_i32.ensures in
    let added = r_call2 w32 add c.wrapping_add_i32-added.type_inv (r_var f.s1) itself c.wrapping_add_i32-added.ensures in
    let f0 = r_call2 w32 smulwb c.silk_smulwb.type_inv fed (r_var f.a0) c.silk_smulwb.ensures in
    let n0 = r_call2 w32 add c.wrapping_add_i32-n0.type_inv added f0 c.wrapping_add_i32-n0.ensures in
    let n1 = r_call2 w32 smulwb c.silk_smulwb-n1.type_inv fed (r_var f.a1) c.silk_smulwb-n1.ensures in
    (n0.val ∙ first_words (filter_numbers a.filter) a.a0 a.s1 (ar2_out a.s0 a.x), n1.val, o.val)
