-- `silk_macros::log_frac` meets its contract.
use Rattle.std.proofs.Common.{w32}
use Rattle.zint.specs.DiffLaws.{v, n, ◌⊖◌, sfits_by, zarith}
use Rattle.zint.specs.ReadLaws.{fit_as, via3}
use Rattle.zint.specs.RuleLaws.{zneeds}
use Rattle.silk_macros.specs.Macros.{smlawb}
use Rattle.silk_macros.specs.Log.{log_frac}
use Rattle.silk_macros.proofs.log_frac.Goals as goal

pub overflow_sub-f : goal.overflow_sub-f
overflow_sub-f c = fit_as (sfits_by w32 (n 128 ⊖ v c.args.f) (omega zarith) (omega zarith)) (search zneeds)

pub returns : goal.returns
unfolding log_frac
returns c =
    let f = sfits_by w32 (n 128 ⊖ v c.args.f) (omega (zarith, c.requires)) (omega (zarith, c.requires)) in
    search (zneeds, via3 smlawb, f) depth 12
