-- `silk_macros::silk_clz_frac` meets its contract.
use Rattle.std.proofs.Common.{◌≡◌, ap, ◌∙◌, ℕ, ◌-◌, ◌%◌, ◌^◌, arith, ℤ, pos, w32}
use Rattle.zint.specs.ReadLaws.{r_var, r_nat}
use Rattle.zint.specs.Rotate.{rotate_right}
use Rattle.zint.specs.RuleLaws.{zneeds}
use Rattle.zint.specs.Wrap.{mod_z}
use Rattle.silk_macros.specs.Macros.{clz32}
use Rattle.silk_macros.specs.LogLaws.{clz_le, frac_by}
use Rattle.silk_macros.proofs.silk_clz_frac.Goals as goal

zeros : (c : goal.After-silk_clz32-lz) → c.silk_clz32-lz.result ≡ clz32 c.args.input
zeros c = c.silk_clz32-lz.ensures ∙ ap clz32 (r_var c.ranges.input).val

pub overflow_sub-lz : goal.overflow_sub-lz
overflow_sub-lz c = omega (arith, zeros c.before, clz_le c.args.input)

pub returns : goal.returns
returns c =
    let k = c.before.before in
    let z = zeros k in
    let b = c.bits_u32.ensures ∙ ap (λ (x : ℤ). mod_z x (2 ^ 32)) (r_var k.ranges.input).val in
    let e = c.rotate_right_u32.ensures ∙ (λ i. rotate_right (b i) (56 - z i)) in
    (z, (r_nat w32 _ (omega arith)).val ∙ ap (λ (x : ℕ). pos (x % 128)) e ∙ ap pos (frac_by (mod_z k.args.input (2 ^ 32)) (clz32 k.args.input) (clz_le k.args.input)))

pub silk_clz32-lz-requires : goal.silk_clz32-lz-requires
silk_clz32-lz-requires c = search zneeds

pub bits_u32-requires : goal.bits_u32-requires
bits_u32-requires c = search zneeds

pub rotate_right_u32-requires : goal.rotate_right_u32-requires
rotate_right_u32-requires c = search zneeds

pub overflow_cast-result : goal.overflow_cast-result
overflow_cast-result c = search zneeds
