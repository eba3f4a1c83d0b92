-- `stage3_arrays::EnergiesMeasure::along` meets its contract. The invariant: the array is filled below i, and the energy is the last one stored.
use Rattle.std.proofs.Common.{◌≡◌, sym, ap, ◌∙◌, ℕ, ◌+◌, ◌-◌, pos, get_or, replicate, to_z, of_z, w16, w32, arith}
use Rattle.stage3_arrays.specs.ArrayLaws.{running_at}
use Rattle.zint.specs.RuleLaws.{zneeds}
use Rattle.zint.specs.ReadLaws.{r_got}
use Rattle.lists.specs.Fill.{filled}
use Rattle.lists.specs.FillLaws.{filled_none, filled_turn}
use Rattle.stage3_arrays.specs.Arrays.{running, step}
use Rattle.stage3_arrays.proofs.EnergiesMeasure.along.Goals as goal

pub loop-i-init : goal.loop-i-init
unfolding running
loop-i-init c =
    let a = c.args in
    let w = a.within.frame.now in
    let v = (r_got w32 c.energy_from-energy.type_inv c.energy_from-energy.ensures).val in
    (omega arith, (omega arith, (v, filled_turn (running w (a.within.lags.target - a.within.lags.first) a.within.lags.len) 0 (replicate 22 (pos 0)) (filled_none _ _) v (omega arith))))

pub loop-i-preserved : goal.loop-i-preserved
loop-i-preserved c =
    let a = c.args in
    let w = a.within.frame.now in
    let i = c.loop-i.i in
    let b = a.within.lags.target - a.within.lags.first in
    let gone = get_or w (b + a.within.lags.len - i) (pos 0) in
    let come = get_or w (b - i) (pos 0) in
    let g : to_z w16 (of_z w16 gone) ≡ gone = search zneeds in
    let k : to_z w16 (of_z w16 come) ≡ come = search zneeds in
    let e = c.loop-i.invariant.1.1.0 in
    let v = (r_got w32 c.slide-energy.type_inv (c.slide-energy.ensures ∙ (λ t. step (e t) (g t) (k t)) ∙ sym (running_at w (a.within.lags.target - a.within.lags.first) a.within.lags.len i c.loop-i.invariant.0))).val in
    let m : i ≡ i + 1 - 1 = omega arith in (
      omega arith,
      (omega arith, (v ∙ ap (running w (a.within.lags.target - a.within.lags.first) a.within.lags.len) m, filled_turn (running w (a.within.lags.target - a.within.lags.first) a.within.lags.len) i (replicate 22 (pos 0)) c.loop-i.invariant.1.1.1 v (omega arith))),
    )

pub returns : goal.returns
returns c =
    let a = c.args in
    let e : c.loop-i.i ≡ a.within.lags.count = omega arith in
    c.loop-i.invariant.1.1.1 ∙ ap (λ (n : ℕ). filled (running a.within.frame.now (a.within.lags.target - a.within.lags.first) a.within.lags.len) n (replicate 22 (pos 0))) e
