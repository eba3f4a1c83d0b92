-- `silk_resampler::silk_resampler_private_ar2` meets its contract: the states are those of the definition, and the list is filled below k.
use Rattle.std.proofs.Common.{ℕ, ◌≤◌, ◌+◌, ◌≡◌, refl, ap, ap₂, ◌∙◌, ◌∷◌, arith, ℤ, drop, length-set, w16}
use Rattle.zint.specs.ReadLaws.{r_elem, wide_32}
use Rattle.zint.specs.RuleLaws.{zneeds}
use Rattle.lists.specs.Fill.{filled}
use Rattle.lists.specs.FillLaws.{filled_none, filled_turn}
use Rattle.lists.specs.Signal.{sample}
use Rattle.silk_resampler.specs.Down23.{filter_numbers, ar2_states, filtered, states_of, with_states}
use Rattle.silk_resampler.specs.Down2Laws.{set_two}
use Rattle.silk_resampler.specs.Down23Laws.{ar2_turn}
use Rattle.silk_resampler.proofs.silk_resampler_private_ar2.Goals as goal

pub loop-k-init : goal.loop-k-init
unfolding sample states_of ar2_states
loop-k-init c = (omega arith, (refl, (search zneeds, (search zneeds, filled_none _ _))))

pub loop-k-preserved : goal.loop-k-preserved
unfolding sample
loop-k-preserved c =
    let r = c.args in
    let k = c.loop-k.k in
    let i = c.loop-k.invariant.1 in
    let g : k + 1 ≤ r.len = omega arith in
    let a0 = (wide_32 (record { sfits = c.a0-1.given })).val in
    let a1 = (wide_32 (record { sfits = c.a1-1.given })).val in
    let v = (r_elem w16 _ c.ar2_step-arg-1.given).val in
    let t = ar2_turn (filter_numbers r.filter) (sample r.a_q14.now 0) (sample r.a_q14.now 1) (states_of r.s.now) (sample r.input.now) k a0 a1 i.1.0 i.1.1.0 v c.ar2_step-step.ensures in
    (g, (simp length-set i.0, (t.0, (t.1, filled_turn _ k r.out_q8.now i.1.1.1 t.2 (omega arith)))))

pub returns : goal.returns
unfolding with_states
returns c =
    let r = c.args in
    let F = filter_numbers r.filter in
    let s = r.s.now in
    let x = sample r.input.now in
    let a = sample r.a_q14.now 0 in
    let b = sample r.a_q14.now 1 in
    let i = c.loop-k.invariant.1.1 in
    let e : c.loop-k.k ≡ r.len = omega arith in
    let z = ap (ar2_states F a b (states_of s) x) e in record {
      out_q8_after = i.1.1 ∙ ap (λ (n : ℕ). filled (filtered F a b (states_of s) x) n r.out_q8.now) e;
      s_after = set_two s _ _ (omega arith) ∙ ap₂ (λ (p q : ℤ). p ∷ q ∷ drop 2 s) (i.0 ∙ ap (λ t. t.first) z) (i.1.0 ∙ ap (λ t. t.second) z);
    }
