-- `silk_resampler::silk_resampler_down2` meets its contract: the states are those of the definition, and the list is filled below k.
use Rattle.std.proofs.Common.{ℕ, ◌≤◌, ◌+◌, ◌/◌, ◌≡◌, refl, ap, ap₂, ◌∙◌, ◌∷◌, arith, ℤ, drop, length-set, w16}
use Rattle.zint.specs.ReadLaws.{r_elem}
use Rattle.zint.specs.RuleLaws.{zneeds}
use Rattle.lists.specs.Fill.{filled}
use Rattle.lists.specs.FillLaws.{filled_none, filled_turn}
use Rattle.lists.specs.Signal.{sample}
use Rattle.silk_resampler.specs.Down2.{even_state, odd_state, halved, down2_states}
use Rattle.silk_resampler.specs.Down2Laws.{set_two, down2_turn}
use Rattle.silk_resampler.proofs.silk_resampler_down2.Goals as goal

pub loop-k-init : goal.loop-k-init
unfolding sample even_state odd_state
loop-k-init c = (omega arith, (refl, (search zneeds, (search zneeds, filled_none _ _))))

pub loop-k-preserved : goal.loop-k-preserved
unfolding sample
loop-k-preserved c =
    let r = c.args in
    let k = c.loop-k.k in
    let i = c.loop-k.invariant.1 in
    let g : k + 1 ≤ r.in_len / 2 = omega arith in
    let a = (r_elem w16 _ c.down2_step-arg-1.given).val in
    let b = (r_elem w16 _ c.down2_step-arg-in-loop-k-1.given).val in
    let t = down2_turn (sample r.s.now 0) (sample r.s.now 1) (sample r.input.now) k i.1.0 i.1.1.0 a b c.down2_step-step.ensures in
    (g, (simp length-set i.0, (t.0, (t.1, filled_turn _ k r.out.now i.1.1.1 t.2 (omega arith)))))

pub returns : goal.returns
unfolding down2_states
returns c =
    let a = c.args in
    let s = a.s.now in
    let x = sample a.input.now in
    let i = c.loop-k.invariant.1.1 in
    let e : c.loop-k.k ≡ a.in_len / 2 = omega arith in record {
      out_after = i.1.1 ∙ ap (λ (n : ℕ). filled (halved (sample s 0) (sample s 1) x) n a.out.now) e;
      s_after = set_two s _ _ (omega arith) ∙ ap₂ (λ (p q : ℤ). p ∷ q ∷ drop 2 s) (i.0 ∙ ap (even_state (sample s 0) x) e) (i.1.0 ∙ ap (odd_state (sample s 1) x) e);
    }
