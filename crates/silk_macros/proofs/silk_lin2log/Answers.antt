-- `silk_macros::silk_lin2log` meets its contract.
use Rattle.std.proofs.Common.{false, ◌≡◌, ap, ap₂, ◌∙◌, ℕ, ◌-◌, ◌*◌, ◌≤◌, ◌^◌, arith, ℤ, pos, nat_abs, ◌*ℤ◌, ◌<ℤ◌, ◌≤ℤ◌, w32, SFits, to_z, of_z}
use Rattle.std.specs.Int.Count.{count_leading_zeros}
use Rattle.std.specs.Int.Signed.{le_z}
use Rattle.zint.specs.BoundLaws.{abs_ud, fits_abs}
use Rattle.zint.specs.DiffLaws.{le_of, lt_of, zarith}
use Rattle.zint.specs.ReadLaws.{Reads, r_var, r_lit, r_nat, r_as, r_call1, r_add, f_add, r_holds, fit_as, t_le}
use Rattle.zint.specs.RuleLaws.{zneeds}
use Rattle.zint.specs.TestLaws.{le_false, sel_no}
use Rattle.zint.specs.Wrap.{wrap, mod_z}
use Rattle.silk_macros.specs.Macros.{clz32}
use Rattle.silk_macros.specs.Log.{frac_q7, log_frac, lin2log_pos, lin2log}
use Rattle.silk_macros.specs.LogLaws.{bits_is, zeros_is, zeros_lt, frac_lt, nat_wrap, lin2log_fits}
use Rattle.silk_macros.proofs.silk_lin2log.Goals as goal

-- a gain g that is not at most 0, as the code reads it
test : {g : ℤ} → SFits w32 g → le_z (to_z w32 (of_z w32 g)) (to_z w32 (of_z w32 (pos 0))) ≡ false → le_z g (pos 0) ≡ false
test f e = t_le (r_var f) (r_lit w32 0 tt) e

module _ (g : ℤ) (f : SFits w32 g) (p : pos 0 <ℤ g) where
  -- what `silk_clz_frac` gives of it
  zeros : (lz : ℕ) → lz ≡ clz32 (to_z w32 (of_z w32 g)) → lz ≡ count_leading_zeros 32 (nat_abs g)
  zeros lz e = e ∙ ap clz32 (r_var f).val ∙ zeros_is g p f

  below : (lz : ℕ) → lz ≡ clz32 (to_z w32 (of_z w32 g)) → lz ≤ 31
  below lz e = omega (arith, zeros lz e, zeros_lt (nat_abs g) (omega (zarith, abs_ud g)) (omega (arith, fits_abs f)))

  frac : (x : ℤ) → x ≡ pos (frac_q7 (mod_z (to_z w32 (of_z w32 g)) (2 ^ 32)) (clz32 (to_z w32 (of_z w32 g)))) → Reads w32 (of_z w32 x) (pos (frac_q7 (nat_abs g) (count_leading_zeros 32 (nat_abs g))))
  frac x q =
      let e = q
      ∙ ap (λ (y : ℤ). pos (frac_q7 (mod_z y (2 ^ 32)) (clz32 y))) (r_var f).val
      ∙ ap₂ (λ (y z : ℕ). pos (frac_q7 y z)) (bits_is g p f) (zeros_is g p f) in
      r_as (r_var (fit_as (record { sfits = omega (arith, frac_lt (nat_abs g) (count_leading_zeros 32 (nat_abs g))) }) e)) e

  -- the first part of the sum
  whole : (lz : ℕ) (m : ℤ) → SFits w32 m → lz ≡ clz32 (to_z w32 (of_z w32 g)) → m ≡ wrap w32 (to_z w32 (of_z w32 (pos (31 - lz))) *ℤ pos 128)
      → Reads w32 (of_z w32 m) (pos ((31 - count_leading_zeros 32 (nat_abs g)) * 128))
  whole lz m i e q =
      r_as (r_call1 w32 (λ (x : ℤ). wrap w32 (x *ℤ pos 128)) i.sfits (r_nat w32 (31 - lz) (omega arith)) q)
      (nat_wrap ((31 - lz) * 128) (omega arith) ∙ ap (λ (z : ℕ). pos ((31 - z) * 128)) (zeros lz e))

pub returns-then-gain_q16-le0 : goal.returns-then-gain_q16-le0
unfolding lin2log
returns-then-gain_q16-le0 c = search zneeds

pub log_frac-requires : goal.log_frac-requires
log_frac-requires c =
    let g = nat_abs c.args.gain_q16 in
    let k = frac_q7 g (count_leading_zeros 32 g) in
    let p = le_false c.args.gain_q16 (pos 0) (test c.ranges.gain_q16 c.if-gain_q16-le0.false) in
    r_holds (λ (x : ℤ). (pos 0 ≤ℤ x) × (x <ℤ pos 128)) (frac c.args.gain_q16 c.ranges.gain_q16 p _ c.silk_clz_frac-c.ensures.1)
    (le_of (pos 0) (pos k) (omega arith), lt_of (pos k) (pos 128) (omega (arith, frac_lt g (count_leading_zeros 32 g))))

pub overflow_sub-c : goal.overflow_sub-c
overflow_sub-c c = below c.args.gain_q16 c.ranges.gain_q16 (le_false c.args.gain_q16 (pos 0) (test c.ranges.gain_q16 c.if-gain_q16-le0.false)) _ c.silk_clz_frac-c.ensures.0

-- the two parts of the sum
module _ (c : goal.After-silk_lshift) where
  above : pos 0 <ℤ c.args.gain_q16
  above = le_false c.args.gain_q16 (pos 0) (test c.ranges.gain_q16 c.if-gain_q16-le0.false)

  fraction : Reads w32 (of_z w32 c.log_frac.result)
      (log_frac (pos (frac_q7 (nat_abs c.args.gain_q16) (count_leading_zeros 32 (nat_abs c.args.gain_q16)))))
  fraction = r_call1 w32 log_frac c.log_frac.type_inv (frac c.args.gain_q16 c.ranges.gain_q16 above _ c.silk_clz_frac-c.ensures.1) c.log_frac.ensures

  shifted : Reads w32 (of_z w32 c.silk_lshift.result) (pos ((31 - count_leading_zeros 32 (nat_abs c.args.gain_q16)) * 128))
  shifted = whole c.args.gain_q16 c.ranges.gain_q16 above _ _ (record { sfits = c.silk_lshift.type_inv }) c.silk_clz_frac-c.ensures.0 c.silk_lshift.ensures

pub overflow_add-result : goal.overflow_add-result
unfolding lin2log_pos
overflow_add-result c = f_add (fraction c) (shifted c) (lin2log_fits _)

pub returns : goal.returns
unfolding lin2log lin2log_pos
returns c = sel_no _ _ _ _ (test c.ranges.gain_q16 c.if-gain_q16-le0.false) (r_add (fraction c) (shifted c) (lin2log_fits _)).val
