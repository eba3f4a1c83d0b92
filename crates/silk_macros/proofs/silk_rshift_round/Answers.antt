-- `silk_macros::silk_rshift_round` meets its contract, branch by branch.
use Rattle.std.proofs.Common.{false, ◌≡◌, refl, ap, ◌∙◌, ℕ, ◌-◌, ◌%◌, ◌^◌, ◌<◌, lit<, lit≤, ℤ, pos, nat_abs, ◌-ℤ◌, ◌*ℤ◌, ◌<ℤ◌, w32, to_z, of_z}
use Rattle.std.specs.Int.{int_shl, int_wrapping_neg}
use Rattle.std.specs.Int.Signed.{shr_z, le_z}
use Rattle.std.proofs.lemmas.Int.{to_z-of_z}
use Rattle.zint.specs.BoundLaws.{abs_ud}
use Rattle.zint.specs.DiffLaws.{v, n, ◌⊖◌, le_of, sfits_by, positive_dn, zarith}
use Rattle.zint.specs.ReadLaws.{Reads, r_var, r_lit, r_as, r_add, r_shr, r_mask, r_got, f_add, fit_as, t_le}
use Rattle.zint.specs.ShiftLaws.{amount, pred_abs}
use Rattle.zint.specs.TestLaws.{le_false, sel_yes, sel_no}
use Rattle.zint.specs.RuleLaws.{zneeds}
use Rattle.zint.specs.Wrap.{wrap, mod_z}
use Rattle.zint.specs.WrapLaws.{mod_z_lt, mod_z_is, mod_z_cong, mod_part, cong_trans, cong_sym, cong_part, wrap_cong, read_mod, shl_of_std, neg_of_std}
use Rattle.silk_macros.specs.Macros.{rshift_round}
use Rattle.silk_macros.specs.MacroLaws.{round_fits}
use Rattle.silk_macros.proofs.silk_rshift_round.Goals as goal

-- to the left: the bits of -s, of which the machine takes five
negated : (s y : ℤ) (u : ℕ) → y ≡ wrap w32 (pos 0 -ℤ s) → u ≡ mod_z y (2 ^ 32) → u % 32 ≡ mod_z (pos 0 -ℤ s) 32
negated s y u e f =
    let z = pos 0 -ℤ s in
    ap (λ (k : ℕ). k % 32) (f ∙ ap (λ (x : ℤ). mod_z x (2 ^ 32)) e) ∙ mod_part (wrap w32 z) 32 (2 ^ 27) (lit< tt) (lit< tt)
    ∙ mod_z_is (wrap w32 z) 32 (mod_z z 32) (mod_z_lt z 32 (lit< tt)) (cong_trans (mod_z_cong z 32 (lit< tt)) (cong_sym (cong_part 32 (2 ^ 27) (wrap_cong w32 z))))

-- between the two
module _ (c : goal.Else-shift-ge31) where
  not_left : le_z c.args.shift (pos 0) ≡ false
  not_left = t_le (r_var c.ranges.shift) (r_lit w32 0 tt) c.if-shift-le0.false

  not-out : le_z (pos 31) c.args.shift ≡ false
  not-out = t_le (r_lit w32 31 tt) (r_var c.ranges.shift) c.if-shift-ge31.false

  positive : pos 0 <ℤ c.args.shift
  positive = le_false c.args.shift (pos 0) not_left

  small : c.args.shift <ℤ pos 31
  small = le_false (pos 31) c.args.shift not-out

  at : of_z w32 c.args.shift ≡ nat_abs c.args.shift
  at = let p = positive in amount w32 c.args.shift (le_of (pos 0) c.args.shift (omega zarith))

  at_1 : of_z w32 (to_z w32 (of_z w32 c.args.shift) -ℤ pos 1) ≡ nat_abs c.args.shift - 1
  at_1 = ap (of_z w32) (ap (λ (x : ℤ). x -ℤ pos 1) (to_z-of_z w32 c.args.shift c.ranges.shift) ∙ pred_abs c.args.shift positive)

  size : 0 < nat_abs c.args.shift
  size = let p = positive in omega (zarith, abs_ud c.args.shift)

  whole : Reads w32 (of_z w32 (shr_z (to_z w32 (of_z w32 c.args.a)) (2 ^ of_z w32 c.args.shift))) (shr_z c.args.a (2 ^ nat_abs c.args.shift))
  whole = r_as (r_shr (2 ^ of_z w32 c.args.shift) (r_var c.ranges.a)) (ap (λ (k : ℕ). shr_z c.args.a (2 ^ k)) at)

pub returns-then-shift-le0 : goal.returns-then-shift-le0
returns-then-shift-le0 c =
    let k = c.cast_unsigned.result % 32 in
    let y = c.wrapping_neg.ensures ∙ ap (int_wrapping_neg w32) (r_var c.ranges.shift).val ∙ neg_of_std w32 c.args.shift c.ranges.shift in
    let s = negated c.args.shift c.wrapping_neg.result c.cast_unsigned.result y (c.cast_unsigned.ensures ∙ read_mod w32 c.wrapping_neg.result (record { sfits = c.wrapping_neg.type_inv })) in
    let e = c.wrapping_shl.ensures ∙ ap (λ (x : ℤ). int_shl w32 x k) (r_var c.ranges.a).val ∙ shl_of_std w32 c.args.a k c.ranges.a in
    sel_yes _ _ _ _ (t_le (r_var c.ranges.shift) (r_lit w32 0 tt) c.if-shift-le0.true)
    (r_got w32 c.wrapping_shl.type_inv (e ∙ ap (λ (j : ℕ). wrap w32 (c.args.a *ℤ pos (2 ^ j))) s)).val

pub returns-then-shift-ge31 : goal.returns-then-shift-ge31
returns-then-shift-ge31 c =
    let s = r_var c.ranges.shift in
    sel_no _ _ _ _ (t_le s (r_lit w32 0 tt) c.if-shift-le0.false) (sel_yes _ _ _ _ (t_le (r_lit w32 31 tt) s c.if-shift-ge31.true) refl)

pub overflow_shr-result : goal.overflow_shr-result
overflow_shr-result c = let p = positive c in let q = small c in omega (zarith, at c, abs_ud c.args.shift, positive_dn p)

pub overflow_sub-result : goal.overflow_sub-result
overflow_sub-result c =
    let p = positive c in
    let q = small c in
    fit_as (sfits_by w32 (v c.args.shift ⊖ n 1) (omega zarith) (omega zarith)) (search zneeds)

pub overflow_shr-result-2 : goal.overflow_shr-result-2
overflow_shr-result-2 c = let p = positive c in let q = small c in omega (zarith, at_1 c, abs_ud c.args.shift, positive_dn p)

pub overflow_add-result : goal.overflow_add-result
unfolding rshift_round
overflow_add-result c =
    f_add (whole c) (r_mask 1 2147483648 refl (lit≤ tt) (r_as (r_shr _ (r_var c.ranges.a)) (ap (λ (k : ℕ). shr_z c.args.a (2 ^ k)) (at_1 c))))
    (round_fits (nat_abs c.args.shift) (size c) c.ranges.a)

pub returns : goal.returns
unfolding rshift_round
returns c =
    let r = r_add (whole c) (r_mask 1 2147483648 refl (lit≤ tt) (r_as (r_shr _ (r_var c.ranges.a)) (ap (λ (k : ℕ). shr_z c.args.a (2 ^ k)) (at_1 c))))
    (round_fits (nat_abs c.args.shift) (size c) c.ranges.a) in
    sel_no _ _ _ _ (not_left c) (sel_no _ _ _ _ (not-out c) r.val)
