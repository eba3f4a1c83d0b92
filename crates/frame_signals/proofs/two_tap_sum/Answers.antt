-- `frame_signals::two_tap_sum` meets its contract.
use Rattle.std.proofs.Common.{◌≡◌, refl, sym, ap, ap₂, ◌∙◌, subst, arith, ℕ, zero, suc, get_or, length-set, List, ℤ, pos, negsuc, ◌+ℤ◌, SFits, to_z, of_z, add-one, w16}
use Rattle.zint.specs.Clamp.{sat}
use Rattle.zint.specs.ClampLaws.{clamp_in}
use Rattle.zint.specs.DiffLaws.{eq_of, le_of, add_ud, sfits_up, sfits_dn}
use Rattle.zint.specs.OrderLaws.{lt_no}
use Rattle.zint.specs.ReadLaws.{r_elem}
use Rattle.zint.specs.RuleLaws.{zneeds}
use Rattle.lists.specs.FillLaws.{filled_none, filled_turn, get_d_after}
use Rattle.lists.specs.Signal.{sample}
use Rattle.frame_signals.specs.Signals.{two_tap}
use Rattle.frame_signals.proofs.two_tap_sum.Invariants.{sample_before}
use Rattle.frame_signals.proofs.two_tap_sum.Goals as goal

-- a number that fits is not held
held : (z : ℤ) → SFits w16 z → sat w16 z ≡ z
unfolding sat
held z f =
    sym (clamp_in _ _ z z refl (lt_no (le_of z (pos 32767) (omega (arith, sfits_up f)))) (lt_no (le_of (negsuc 32767) z (omega (arith, sfits_dn f)))))

-- a sum by the sample before
summed : (g : ℕ → ℤ) (i : ℕ) → SFits w16 (g i) → sat w16 (g i +ℤ sample_before g i) ≡ two_tap g i
unfolding two_tap
summed g zero f = ap (sat w16) (eq_of (g 0 +ℤ pos 0) (g 0) (omega (arith, add_ud (g 0) (pos 0)))) ∙ held (g 0) f
summed g (suc i) f = refl

pub loop-place-init : goal.loop-place-init
loop-place-init c = (refl, (filled_none _ _, refl))

pub loop-place-preserved : goal.loop-place-preserved
unfolding sample
loop-place-preserved c =
    let l = c.args.x.now in
    let f = two_tap (sample l) in
    let i = c.loop-place.place-index in
    let e = c.loop-place.invariant.1.0 in
    let here : get_or c.loop-place.x i (pos 0) ≡ get_or l i (pos 0) = ap (λ (t : List ℤ). get_or t i (pos 0)) e ∙ get_d_after f i l i (pos 0) (omega arith) in
    let p = r_elem w16 (get_or c.loop-place.x i (pos 0)) (search zneeds) in
    let r : to_z w16 (of_z w16 c.silk_add_sat16.result) ≡ sat w16 (get_or c.loop-place.x i (pos 0) +ℤ to_z w16 c.loop-place.before-bits) = search zneeds in
    let v = r ∙ ap₂ (λ (a b : ℤ). sat w16 (a +ℤ b)) here c.loop-place.invariant.1.1 ∙ summed (sample l) i (subst (SFits w16) here p.fit) in (
      simp length-set c.loop-place.invariant.0,
      (filled_turn f i l e v (omega arith), p.val ∙ here ∙ ap (sample_before (sample l)) (sym (add-one i))),
    )
