-- `stage3::sum_subframes` meets its contract.
use Rattle.std.proofs.Common.{◌≡◌, refl, sym, ap, ap₂, ◌∙◌, List, [], ℕ, ◌<◌, ℤ, pos, ◌+ℤ◌, get_or, w32, to_z, of_z, arith, take, get_or-take, length-take}
use Rattle.zint.specs.ReadLaws.{r_var, r_got}
use Rattle.zint.specs.RuleLaws.{zneeds}
use Rattle.zint.specs.Clamp.{sat}
use Rattle.stage3.specs.Stage3.{sat_sum}
use Rattle.stage3.specs.Search.{at3}
use Rattle.stage3.specs.PickLaws.{sat_sum_next}
use Rattle.stage3.proofs.sum_subframes.Goals as goal

pub loop-subframe-init : goal.loop-subframe-init
unfolding sat_sum
loop-subframe-init c = refl

pub loop-subframe-preserved : goal.loop-subframe-preserved
loop-subframe-preserved c =
    let a = c.args in
    let l = a.values.now in
    let k = c.loop-subframe.subframe-index in
    let h : k < a.nb_subfr = omega (arith, c.loop-subframe-test.true, length-take a.nb_subfr l) in
    let x = get_or (get_or (get_or (take a.nb_subfr l) k []) a.j []) a.lag_counter (pos 0) in
    let e : to_z w32 (of_z w32 x) ≡ x = search zneeds in
    let y = e ∙ ap (λ (rows : List (List ℤ)). get_or (get_or rows a.j []) a.lag_counter (pos 0)) (get_or-take a.nb_subfr l k [] h) in
    (r_got w32 c.silk_add_sat32-sum.type_inv (c.silk_add_sat32-sum.ensures ∙ ap₂ (λ (u v : ℤ). sat w32 (u +ℤ v)) c.loop-subframe.invariant y)).val
    ∙ sym (sat_sum_next (to_z w32 (of_z w32 a.from)) (λ (q : ℕ). at3 l q a.j a.lag_counter) k)

pub returns : goal.returns
returns c =
    let a = c.args in
    let e : c.loop-subframe.subframe-index ≡ a.nb_subfr = omega (arith, length-take a.nb_subfr a.values.now, c.told-values) in
    c.loop-subframe.invariant ∙ ap₂ (λ (z : ℤ) (n : ℕ). sat_sum z (λ (q : ℕ). at3 a.values.now q a.j a.lag_counter) n) (r_var c.ranges.from).val e
