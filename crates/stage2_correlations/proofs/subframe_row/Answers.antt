-- `stage2_correlations::subframe_row` meets its contract.
use Rattle.std.proofs.Common.{Bool, false, not, List, ◌≡◌, refl, sym, ap, ap₂, ◌∙◌, ℕ, ◌+◌, ◌-◌, ◌*◌, arith, lit≤, ℤ, pos, ◌+ℤ◌, ◌-ℤ◌, ◌*ℤ◌, get_or, replicate, w16, w32, to_z, of_z, Option, Some, unwrap_or, is_none, rules}
use Rattle.zint.specs.Wrap.{wrap}
use Rattle.zint.specs.ReadLaws.{r_got, r_elem, r_lit, r_call2}
use Rattle.lists.specs.Fill.{filled}
use Rattle.lists.specs.FillLaws.{filled_none, filled_turn, filled_all}
use Rattle.best.specs.Best.{some}
use Rattle.silk_sigproc.specs.Dot.{energy_sum}
use Rattle.stage2_correlations.specs.Correlations.{target2 as start_of_lem}
use Rattle.stage2_correlations.specs.Rows.{at_lag, value_at, zero_at, row_by, subframe_row}
use Rattle.stage2_correlations.specs.RowLaws.{divisor_is, energy_back, at_lag_is, lag_value, lag_zero, some_more, some_same}
use Rattle.zint.specs.RuleLaws.{zneeds}
use Rattle.stage2_correlations.proofs.subframe_row.Goals as goal
use Rattle.stage2_correlations.proofs.subframe_row.Goals.{then-is_none, else-is_none, then-marked, else-marked}

pub energy_of_40-requires : goal.energy_of_40-requires
unfolding start_of_lem
energy_of_40-requires c = c.requires.1

pub energy_of_40-energy_basis-requires : goal.energy_of_40-energy_basis-requires
unfolding start_of_lem
energy_of_40-energy_basis-requires c = omega arith

pub loop-i-init : goal.loop-i-init
unfolding start_of_lem some
loop-i-init c =
    let a = c.energy_of_40 in
    let b = c.wrapping_add_i32-energy_target in
    let t = (r_call2 w32 (λ (x y : ℤ). wrap w32 (x +ℤ y)) b.type_inv (r_got w32 a.type_inv a.ensures) (r_lit w32 1 tt) b.ensures).val in
    let u = (r_got w32 c.energy_of_40-energy_basis.type_inv c.energy_of_40-energy_basis.ensures).val in
    (omega arith, (refl, (t, (u, (filled_none _ _, refl)))))

pub correlate-at-requires : goal.correlate-at-requires
unfolding start_of_lem
correlate-at-requires c = (omega arith, c.requires.1)

pub bounds-frame_8khz-basis : goal.bounds-frame_8khz-basis
unfolding start_of_lem
bounds-frame_8khz-basis c = omega (arith, c.requires.1)

pub bounds-frame_8khz-basis-in-loop-i : goal.bounds-frame_8khz-basis-in-loop-i
unfolding start_of_lem
bounds-frame_8khz-basis-in-loop-i c = omega (arith, c.requires.1)

-- at a lag that is not measured
unmarked : (e : List ℤ) (t d : ℕ) (n : ℤ) → Some (pos 0) ≡ at_lag false e t d n
unfolding at_lag
unmarked e t d n = refl

pub loop-i-preserved : goal.loop-i-preserved
unfolding start_of_lem
loop-i-preserved c =
    let a = c.args in
    let e = a.frame_8khz.now in
    let i = c.loop-i.i in
    let inv = c.loop-i.invariant.1 in
    -- the basis energy one lag on
    let b = 160 + 40 * a.k - 15 - i in
    let after : b + 1 ≡ 160 + 40 * a.k - (14 + i) = omega arith in
    let next : b ≡ 160 + 40 * a.k - (14 + (i + 1)) = omega arith in
    let gone = (r_elem w16 (get_or e (b + 40) (pos 0)) (search rules)).val in
    let come = (r_elem w16 (get_or e b (pos 0)) (search rules)).val in
    let z = to_z w32 c.loop-i.energy_basis-bits in
    let y = (r_got w32 c.slide-energy_basis.type_inv
    (c.slide-energy_basis.ensures
    ∙ ap₂ (λ (g h : ℤ). wrap w32 (z -ℤ g *ℤ g +ℤ h *ℤ h)) gone come
    ∙ energy_back e b z (inv.1.1.0 ∙ ap (λ (n : ℕ). wrap w32 (energy_sum e n 40)) (sym after))
    ∙ ap (λ (n : ℕ). wrap w32 (energy_sum e n 40)) next)).val in
    -- the lag's correlation
    let n = c.wrapping_add_i32-norm in
    let normed = (r_got w32 n.type_inv (n.ensures ∙ ap₂ (λ (x y : ℤ). wrap w32 (x +ℤ y)) inv.1.0 inv.1.1.0 ∙ divisor_is e a.k (14 + i))).val in
    let norm = to_z w32 (of_z w32 n.result) in
    let at_mark = λ (t : Bool). at_lag t e (start_of_lem a.k) (14 + i) norm in
    let said : c.if-marked.at ≡ at_mark (get_or a.marks.now i false) =
    elim c.if-marked.branch [
      | then-marked w ↦ w.at-is ∙ w.correlate-at.ensures ∙ ap at_mark (sym w.if-marked.true)
      | else-marked w ↦ w.at-is ∙ unmarked e (start_of_lem a.k) (14 + i) norm ∙ ap at_mark (sym w.if-marked.false)
    ]
    in
    let r = said ∙ at_lag_is e a.marks.now a.k i _ normed in
    let f = zero_at e a.marks.now a.k in
    let stored : to_z w16 (of_z w16 c.unwrap_or.result) ≡ c.unwrap_or.result = search zneeds in
    let v = stored ∙ c.unwrap_or.ensures ∙ ap (λ (x : Option ℤ). unwrap_or x (pos 0)) r ∙ lag_value e a.marks.now a.k i in
    let z : is_none c.if-marked.at ≡ f i = ap is_none r ∙ lag_zero (f i) (value_at e a.marks.now a.k i) in
    let w : c.if-is_none.zero ≡ some (i + 1) f =
    elim c.if-is_none.branch [
      | then-is_none w ↦ some_more i f (sym z ∙ ap not w.if-is_none.ensures) w.zero-is
      | else-is_none w ↦ some_same i f (sym z ∙ ap not w.if-is_none.ensures) (w.zero-is ∙ inv.1.1.1.1)
    ]
    in (
      omega arith,
      (refl, (inv.1.0, (y, (filled_turn (value_at e a.marks.now a.k) i (replicate 132 (pos 0)) inv.1.1.1.0 v (omega arith), w)))),
    )

-- the numbers, and whether a divisor is zero, once the loop has ended
module _ (e : List ℤ) (m : List Bool) (k i : ℕ) (h : i ≡ 132) where
  row_is : (t : Bool) (c : List ℤ) → c ≡ filled (value_at e m k) i (replicate 132 (pos 0)) → t ≡ some i (zero_at e m k) → row_by t c ≡ subframe_row e m k
  unfolding subframe_row
  row_is t c p q =
      ap₂ row_by (q ∙ ap (λ (n : ℕ). some n (zero_at e m k)) h)
      (p ∙ ap (λ (n : ℕ). filled (value_at e m k) n (replicate 132 (pos 0))) h ∙ filled_all (value_at e m k) 132 (replicate 132 (pos 0)) (lit≤ tt))

pub returns-then-zero : goal.returns-then-zero
returns-then-zero c =
    let a = c.args in
    let l = c.loop-i in
    let i = l.invariant.1.1.1.1 in
    ap (λ (t : Bool). row_by t l.c_8khz) (sym c.if-zero.true) ∙ row_is a.frame_8khz.now a.marks.now a.k l.i (omega arith) l.zero l.c_8khz i.0 i.1

pub returns-else-zero : goal.returns-else-zero
returns-else-zero c =
    let a = c.args in
    let l = c.loop-i in
    let i = l.invariant.1.1.1.1 in
    ap (λ (t : Bool). row_by t l.c_8khz) (sym c.if-zero.false) ∙ row_is a.frame_8khz.now a.marks.now a.k l.i (omega arith) l.zero l.c_8khz i.0 i.1
