-- `frame_signals::working_frame` meets its contract.
use Rattle.std.proofs.Common.{sym, ap, ◌∙◌, arith, length, take, take_all, length-take-le}
use Rattle.frame_signals.specs.ScaleLaws.{holder_frame, holder_scratch}
use Rattle.frame_signals.proofs.working_frame.Goals as goal

pub slice_bounds-result-end : goal.slice_bounds-result-end
slice_bounds-result-end c = sym (length-take-le _ _ (omega arith))

pub returns-then-shift-eq0 : goal.returns-then-shift-eq0
returns-then-shift-eq0 c =
    let a = c.args in
    sym (ap (take (length a.frame.now)) (holder_frame a.shift a.frame.now a.scratch.now c.if-shift-eq0.true) ∙ take_all (length a.frame.now) a.frame.now (omega arith))

pub returns : goal.returns
returns c = let a = c.args in ap (take (length a.frame.now)) (sym (holder_scratch a.shift a.frame.now a.scratch.now c.if-shift-eq0.false))
