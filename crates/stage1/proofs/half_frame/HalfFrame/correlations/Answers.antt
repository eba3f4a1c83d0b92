-- `stage1::HalfFrame::correlations` meets its contract: the arrays hold what the quotients are taken of.
use Rattle.std.proofs.Common.{◌∙◌}
use Rattle.stage1.specs.ScoreLaws.{half_frame_of}
use Rattle.stage1.proofs.half_frame.HalfFrame.correlations.Goals as goal

pub returns : goal.returns
returns c = c.quotients.ensures ∙ half_frame_of _ _ _ _ c.cross_correlations.ensures c.normalizers.ensures
