-- `frame_signals::scale_into` meets its contract.
use Rattle.std.proofs.Common.{◌≡◌, refl, sym, ap, ◌∙◌, ℕ, ◌^◌, arith, pos, length, get_or, length-set, w16}
use Rattle.zint.specs.ReadLaws.{r_elem, r_shr}
use Rattle.zint.specs.RuleLaws.{zneeds}
use Rattle.lists.specs.Fill.{filled}
use Rattle.lists.specs.FillLaws.{filled_none, filled_turn}
use Rattle.lists.specs.Signal.{sample}
use Rattle.frame_signals.specs.Scale.{shifted_at, moved_count}
use Rattle.frame_signals.specs.ScaleLaws.{moved_none, moved_all, moved_le}
use Rattle.frame_signals.proofs.scale_into.Goals.{then-shift-eq0, else-shift-eq0}
use Rattle.frame_signals.proofs.scale_into.Goals as goal

counted : (c : goal.Joined-shift-eq0) → c.if-shift-eq0.count ≡ moved_count c.args.shift (length c.args.frame.now)
counted c =
    let a = c.args in
    elim c.if-shift-eq0.branch [ then-shift-eq0 w ↦ w.count-is ∙ sym (moved_none a.shift (length a.frame.now) w.if-shift-eq0.true) | else-shift-eq0 w ↦ w.count-is ∙ sym (moved_all a.shift (length a.frame.now) w.if-shift-eq0.false) ]

pub loop-i-init : goal.loop-i-init
loop-i-init c =
    let a = c.args in
    let e = counted c in
    (e, (omega (arith, moved_le a.shift (length a.frame.now)), (omega arith, (refl, filled_none _ _))))

pub loop-i-preserved : goal.loop-i-preserved
unfolding shifted_at sample
loop-i-preserved c =
    let a = c.args in
    let i = c.loop-i.i in
    let v = (r_shr (2 ^ a.shift) (r_elem w16 (get_or a.frame.now i (pos 0)) (search zneeds))).val in
    let inv = c.loop-i.invariant in (
      inv.0,
      (
        inv.1.0,
        (
          omega arith,
          (
            simp length-set inv.1.1.1.0,
            filled_turn (shifted_at a.frame.now a.shift) i a.scratch.now inv.1.1.1.1 v (omega arith),
          ),
        ),
      ),
    )

pub returns : goal.returns
returns c =
    let a = c.args in
    let e : c.loop-i.i ≡ moved_count a.shift (length a.frame.now) = omega arith in
    c.loop-i.invariant.1.1.1.1 ∙ ap (λ (k : ℕ). filled (shifted_at a.frame.now a.shift) k a.scratch.now) e
