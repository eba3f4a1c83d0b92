-- `zint::as_i16` meets its contract: the low 16 bits fit.
use Rattle.std.proofs.Common.{w16, w32, of_z}
use Rattle.zint.specs.Wrap.{wrap}
use Rattle.zint.specs.WrapLaws.{wrap_fits}
use Rattle.zint.specs.ReadLaws.{Reads, r_var, r_call1, r_cast, f_cast}
use Rattle.zint.specs.RuleLaws.{zneeds}
use Rattle.zint.proofs.as_i16.Goals as goal

low : (c : goal.After-low16) → Reads w32 (of_z w32 c.low16.result) (wrap w16 c.before.args.x)
low c = r_call1 w32 (wrap w16) c.low16.type_inv (r_var c.before.ranges.x) c.low16.ensures

pub overflow_cast-result : goal.overflow_cast-result
overflow_cast-result c = f_cast (low c) (wrap_fits w16 c.before.args.x)

pub returns : goal.returns
returns c = (r_cast (low c) (wrap_fits w16 c.before.args.x)).val

pub low16-requires : goal.low16-requires
low16-requires c = search zneeds
