-- `frame_signals::halve_into` meets its contract.
use Rattle.std.proofs.Common.{◌∙◌, ◌/◌, pos, length}
use Rattle.lists.specs.Signal.{sample}
use Rattle.silk_resampler.specs.Down2.{halved, down2}
use Rattle.lists.specs.PushLaws.{filled_overwritten}
use Rattle.frame_signals.proofs.halve_into.Goals as goal

pub returns : goal.returns
unfolding down2 sample
returns c =
    let a = c.args in
    c.silk_resampler_down2.ensures.out_after ∙ filled_overwritten (halved (pos 0) (pos 0) (sample a.frame.now)) (length a.frame.now / 2) a.out.now
