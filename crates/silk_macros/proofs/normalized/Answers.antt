-- `silk_macros::normalized` meets its contract.
use Rattle.std.proofs.Common.{◌≡◌, ap, ℕ, ◌^◌, pos, nat_abs, ◌*ℤ◌, false, w32, of_z}
use Rattle.std.specs.Int.Signed.{lt_z}
use Rattle.zint.specs.BoundLaws.{abs_ud}
use Rattle.zint.specs.TestLaws.{lt_false, sel_no}
use Rattle.zint.specs.DiffLaws.{nonneg_dn, zarith}
use Rattle.zint.specs.ReadLaws.{r_var, r_shl, r_as, t_below}
use Rattle.zint.specs.RuleLaws.{zneeds}
use Rattle.zint.specs.ShiftLaws.{amount}
use Rattle.zint.specs.Wrap.{wrap}
use Rattle.silk_macros.specs.Macros.{normal}
use Rattle.silk_macros.proofs.normalized.Goals as goal

module _ (c : goal.Else-h-lt0) where
  test : lt_z c.args.h (pos 0) ≡ false
  test = t_below (pos 0) (r_var c.ranges.h) c.if-h-lt0.false

  at : of_z w32 c.args.h ≡ nat_abs c.args.h
  at = amount w32 c.args.h (lt_false c.args.h (pos 0) test)

pub overflow_shl-result : goal.overflow_shl-result
overflow_shl-result c = omega (zarith, at c, abs_ud c.args.h, nonneg_dn (lt_false c.args.h (pos 0) (test c)))

pub returns-then-h-lt0 : goal.returns-then-h-lt0
unfolding normal
returns-then-h-lt0 c = search zneeds depth 8

pub returns-else-h-lt0 : goal.returns-else-h-lt0
unfolding normal
returns-else-h-lt0 c =
    let r = r_as (r_shl (2 ^ of_z w32 c.args.h) (r_var c.ranges.a)) (ap (λ (k : ℕ). wrap w32 (c.args.a *ℤ pos (2 ^ k))) (at c)) in
    sel_no _ _ _ _ (test c) r.val
