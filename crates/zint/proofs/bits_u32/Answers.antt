-- `zint::bits_u32` meets its contract: the bits of a number are its remainder by 2^32.
use Rattle.std.proofs.Common.{◌∙◌, w32}
use Rattle.zint.specs.WrapLaws.{read_mod}
use Rattle.zint.proofs.bits_u32.Goals as goal

pub returns : goal.returns
returns c = c.cast_unsigned.ensures ∙ read_mod w32 c.args.a c.ranges.a
