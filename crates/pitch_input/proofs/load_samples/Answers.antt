-- `pitch_input::load_samples` meets its contract.
use Rattle.std.proofs.Common.{◌≡◌, refl, sym, ap, ◌∙◌, ℕ, ◌+◌, ◌*◌, arith, length, length-set, w16}
use Rattle.zint.specs.ReadLaws.{r_got}
use Rattle.lists.specs.FillLaws.{filled_none, filled_turn}
use Rattle.pitch_input.specs.Input.{sample_at, samples_from}
use Rattle.pitch_input.specs.InputLaws.{samples_filled}
use Rattle.pitch_input.proofs.load_samples.Goals as goal

pub loop-i-init : goal.loop-i-init
loop-i-init c = (refl, filled_none _ _)

pub loop-i-preserved : goal.loop-i-preserved
loop-i-preserved c =
    let l = c.loop-i in
    let a = c.args in
    let v = (r_got w16 c.sample_at.type_inv c.sample_at.ensures).val in (
      simp length-set l.invariant.0,
      filled_turn (λ (k : ℕ). sample_at a.bytes.now (a.at + 2 * k)) l.i a.out.now l.invariant.1 v (omega arith),
    )

pub returns : goal.returns
returns c =
    let a = c.args in
    let l = c.loop-i in
    let e : l.i ≡ length a.out.now = omega arith in
    l.invariant.1
    ∙ samples_filled a.bytes.now a.at l.i a.out.now (sym e)
    ∙ ap (samples_from a.bytes.now a.at) e
