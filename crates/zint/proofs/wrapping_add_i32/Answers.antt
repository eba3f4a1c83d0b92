-- `zint::wrapping_add_i32` meets its contract: std's method, in the words of `wrap`.
use Rattle.std.proofs.Common.{◌∙◌, ◌+ℤ◌, w32}
use Rattle.std.proofs.lemmas.Int.{wrapping_add_is}
use Rattle.zint.specs.WrapLaws.{wrap_of_std}
use Rattle.zint.proofs.wrapping_add_i32.Goals as goal

pub returns : goal.returns
returns c = wrapping_add_is w32 c.args.a c.args.b c.ranges.a c.ranges.b ∙ wrap_of_std w32 (c.args.a +ℤ c.args.b)
