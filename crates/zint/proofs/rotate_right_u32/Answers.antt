-- `zint::rotate_right_u32` meets its contract: std's method, in the words of `rotate_right`.
use Rattle.std.proofs.Common.{◌%◌, ◌<◌, ◌∙◌, arith}
use Rattle.zint.specs.Rotate.{rotate_right}
use Rattle.zint.specs.RotateLaws.{or_turned}
use Rattle.zint.proofs.rotate_right_u32.Goals as goal

pub returns : goal.returns
unfolding rotate_right
returns c = let l : c.args.s % 32 < 32 = omega arith in c.rotate_right.ensures ∙ or_turned c.args.x (c.args.s % 32) c.ranges.x.fits l
