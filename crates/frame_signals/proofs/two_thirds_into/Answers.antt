-- `frame_signals::two_thirds_into` meets its contract.
use Rattle.std.proofs.Common.{◌∙◌, ◌*◌, ◌/◌, length}
use Rattle.silk_resampler.specs.Down23.{down2_3}
use Rattle.lists.specs.PushLaws.{filled_overwritten}
use Rattle.frame_signals.proofs.two_thirds_into.Goals as goal

pub returns : goal.returns
unfolding down2_3
returns c =
    let a = c.args in
    c.silk_resampler_down2_3.ensures.out_after ∙ filled_overwritten _ (2 * (length a.frame.now / 3)) a.out.now
