-- `stage1::quotients` meets its contract. The invariant: no divisor below i is zero, and the array is filled below i.
use Rattle.std.proofs.Common.{Option, ◌≡◌, sym, ap, ap₂, ◌∙◌, false, List, ℕ, ◌-◌, ℤ, pos, get_or, replicate, arith, below_more, SFits, w16, w32, to_z, of_z}
use Rattle.zint.specs.Wrap.{wrap}
use Rattle.zint.specs.ReadLaws.{r_var, r_got}
use Rattle.lists.specs.Signal.{sample}
use Rattle.lists.specs.Fill.{filled}
use Rattle.lists.specs.FillLaws.{filled_none, filled_turn}
use Rattle.silk_macros.specs.Divide.{quotient, by_zero, low16_of}
use Rattle.stage1.specs.Steps.{quotient_at}
use Rattle.stage1.specs.ScoreLaws.{a_divisor_zero, no_divisor_zero, value_low}
use Rattle.zint.specs.RuleLaws.{zneeds}
use Rattle.stage1.proofs.half_frame.quotients.Goals as goal

pub loop-i-init : goal.loop-i-init
loop-i-init c = (omega arith, (λ k h. absurd (omega arith), filled_none _ _))

-- what a turn divides
known : (xs ns : List ℤ) (i : ℕ) {r : Option ℤ} → r ≡ quotient (to_z w32 (of_z w32 (get_or xs (64 - i) (pos 0)))) (to_z w32 (of_z w32 (get_or ns i (pos 0)))) (pos 14)
    → SFits w32 (get_or xs (64 - i) (pos 0)) → SFits w32 (get_or ns i (pos 0)) → r ≡ quotient_at xs ns i
unfolding sample
known xs ns i e f g = e ∙ ap₂ (λ (a b : ℤ). quotient a b (pos 14)) (r_var f).val (r_var g).val

pub returns-in_err-q : goal.returns-in_err-q
returns-in_err-q c =
    c.from_residual.ensures
    ∙ a_divisor_zero _ _ c.loop-i.i (omega arith) (sym (known c.args.xcorr32.now c.args.normalizers.now c.loop-i.i c.silk_div32_varq.ensures.value (search zneeds) (search zneeds)) ∙ c.in_err-q.was)

pub loop-i-preserved : goal.loop-i-preserved
loop-i-preserved c =
    let a = c.args in
    let i = c.loop-i.i in
    let xs = a.xcorr32.now in
    let ns = a.normalizers.now in
    let k = value_low (sym (known xs ns i c.silk_div32_varq.ensures.value (search zneeds) (search zneeds)) ∙ c.in_ok-q.was) in
    let q : to_z w32 (of_z w32 c.in_ok-q.q) ≡ c.in_ok-q.q = search zneeds in
    let r = (r_got w16 c.as_i16.type_inv (c.as_i16.ensures ∙ ap (wrap w16) q)).val in (
      omega arith,
      (
        below_more (λ (m : ℕ). by_zero (quotient_at xs ns m) ≡ false) i c.loop-i.invariant.1.0 k.0,
        filled_turn (λ (m : ℕ). low16_of (quotient_at xs ns m)) i (replicate 65 (pos 0)) c.loop-i.invariant.1.1 (r ∙ sym k.1) (omega arith),
      ),
    )

pub returns : goal.returns
returns c =
    let a = c.args in
    let e : c.loop-i.i ≡ 65 = omega arith in
    no_divisor_zero _ _ _ (λ i l. c.loop-i.invariant.1.0 i (omega arith))
    (c.loop-i.invariant.1.1 ∙ ap (λ (m : ℕ). filled (λ (k : ℕ). low16_of (quotient_at a.xcorr32.now a.normalizers.now k)) m (replicate 65 (pos 0))) e)
