-- `silk_macros::to_qres` meets its contract.
use Rattle.std.proofs.Common.{true, false, ◌≡◌, refl, ap, ap₂, ◌∙◌, ℕ, ◌^◌, ℤ, pos, nat_abs, ◌-ℤ◌, ◌<ℤ◌, ◌≤ℤ◌, w32, SFits, to_z, of_z}
use Rattle.std.specs.Int.Signed.{lt_z, shr_z}
use Rattle.zint.specs.BoundLaws.{abs_ud}
use Rattle.zint.specs.TestLaws.{lt_true, lt_false, sel_yes, sel_no, ztests}
use Rattle.zint.specs.DiffLaws.{v, n, ◌⊖◌, sfits_by, le_of, lt_of, nonneg_dn, negative_up}
use Rattle.zint.specs.ReadLaws.{Reads, r_var, r_lit, r_got, r_as, r_sub, r_shr, r_holds, f_sub, t_below}
use Rattle.zint.specs.ShiftLaws.{amount, neg_abs}
use Rattle.silk_macros.specs.Macros.{lshift_sat32}
use Rattle.silk_macros.specs.Divide.{to_qres}
use Rattle.silk_macros.proofs.to_qres.Goals as goal

module _ (c : goal.Then-s-lt0) where
  below : lt_z c.args.s (pos 0) ≡ true
  below = t_below (pos 0) (r_var c.ranges.s) c.if-s-lt0.true

  negative : c.args.s <ℤ pos 0
  negative = lt_true c.args.s (pos 0) below

  negated_fits : SFits w32 (pos 0 -ℤ c.args.s)
  negated_fits = sfits_by w32 (n 0 ⊖ v c.args.s) (omega ztests) (omega ztests)

  negated : Reads w32 (of_z w32 (pos 0 -ℤ to_z w32 (of_z w32 c.args.s))) (pos (nat_abs c.args.s))
  negated = r_as (r_sub (r_lit w32 0 tt) (r_var c.ranges.s) negated_fits) (neg_abs c.args.s negative)

module _ (c : goal.Then-s-lt32) where
  not_below : lt_z c.args.s (pos 0) ≡ false
  not_below = t_below (pos 0) (r_var c.ranges.s) c.if-s-lt0.false

  in-word : lt_z c.args.s (pos 32) ≡ true
  in-word = t_below (pos 32) (r_var c.ranges.s) c.if-s-lt32.true

  at : of_z w32 c.args.s ≡ nat_abs c.args.s
  at = amount w32 c.args.s (lt_false c.args.s (pos 0) not_below)

pub overflow_sub-s : goal.overflow_sub-s
overflow_sub-s c = f_sub (r_lit w32 0 tt) (r_var c.ranges.s) (negated_fits c)

pub silk_lshift_sat32-requires : goal.silk_lshift_sat32-requires
silk_lshift_sat32-requires c =
    let s = c.args.s in (
      r_holds (λ (x : ℤ). pos 0 ≤ℤ x) (negated c) (le_of (pos 0) (pos (nat_abs s)) (omega ztests)),
      r_holds (λ (x : ℤ). x <ℤ pos 64) (negated c) (lt_of (pos (nat_abs s)) (pos 64) (omega (ztests, abs_ud s, negative_up (negative c)))),
    )

pub overflow_shr-result : goal.overflow_shr-result
overflow_shr-result c =
    let s = c.args.s in
    let t = in-word c in
    omega (ztests, at c, abs_ud s, nonneg_dn (lt_false s (pos 0) (not_below c)))

pub returns-then-s-lt0 : goal.returns-then-s-lt0
unfolding to_qres
returns-then-s-lt0 c =
    sel_yes _ _ _ _ (below c.before)
    (r_got w32 c.silk_lshift_sat32.type_inv (c.silk_lshift_sat32.ensures ∙ ap₂ lshift_sat32 (r_var c.ranges.r).val (ap nat_abs (negated c.before).val))).val

pub returns-then-s-lt32 : goal.returns-then-s-lt32
unfolding to_qres
returns-then-s-lt32 c =
    let r = c.args.r in
    let p = r_as (r_shr (2 ^ of_z w32 c.args.s) (r_var c.ranges.r)) (ap (λ (k : ℕ). shr_z r (2 ^ k)) (at c)) in
    sel_no _ _ _ _ (not_below c) (sel_yes _ _ _ _ (in-word c) p.val)

pub returns-else-s-lt32 : goal.returns-else-s-lt32
unfolding to_qres
returns-else-s-lt32 c =
    let s = r_var c.ranges.s in
    sel_no _ _ _ _ (t_below (pos 0) s c.if-s-lt0.false) (sel_no _ _ _ _ (t_below (pos 32) s c.if-s-lt32.false) refl)
