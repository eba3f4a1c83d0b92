-- `silk_macros::headroom_32` meets its contract.
use Rattle.std.proofs.Common.{ap, ◌∙◌, ℕ, ◌<◌, ◌^◌, arith, pos, nat_abs, ◌-ℤ◌, w32}
use Rattle.std.specs.Int.Count.{count_leading_zeros, leading_le}
use Rattle.zint.specs.ReadLaws.{r_var, r_nat, r_lit, r_sub, f_sub}
use Rattle.silk_macros.specs.Macros.{headroom}
use Rattle.silk_macros.specs.MacroLaws.{less_fits}
use Rattle.silk_macros.proofs.headroom_32.Goals as goal

zeros : (x : ℕ) → count_leading_zeros 32 x < 2 ^ 31
zeros x = omega (arith, leading_le 32 x)

pub overflow_cast-result : goal.overflow_cast-result
overflow_cast-result c = record { sfits = zeros c.unsigned_abs.result }

pub overflow_sub-result : goal.overflow_sub-result
overflow_sub-result c = f_sub (r_nat w32 _ (zeros c.unsigned_abs.result)) (r_lit w32 1 tt) (less_fits c.unsigned_abs.result)

pub returns : goal.returns
unfolding headroom
returns c =
    (r_sub (r_nat w32 _ (zeros c.unsigned_abs.result)) (r_lit w32 1 tt) (less_fits c.unsigned_abs.result)).val
    ∙ ap (λ (k : ℕ). pos (count_leading_zeros 32 k) -ℤ pos 1) (c.unsigned_abs.ensures.value ∙ ap nat_abs (r_var c.ranges.a).val)
