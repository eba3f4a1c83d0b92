-- `silk_macros::silk_clz32` meets its contract.
use Rattle.std.proofs.Common.{ap, ◌∙◌, w32}
use Rattle.std.specs.Int.Count.{count_leading_zeros}
use Rattle.zint.specs.WrapLaws.{read_mod}
use Rattle.silk_macros.specs.Macros.{clz32}
use Rattle.silk_macros.proofs.silk_clz32.Goals as goal

pub returns : goal.returns
unfolding clz32
returns c = c.leading_zeros.ensures ∙ ap (count_leading_zeros 32) (read_mod w32 c.args.a c.ranges.a)
