-- `silk_sigproc::energy_from` meets its contract.
use Rattle.std.proofs.Common.{ap, ◌∙◌, List, ℤ, w32}
use Rattle.zint.specs.Wrap.{wrap}
use Rattle.zint.specs.ReadLaws.{r_got}
use Rattle.lists.specs.FillLaws.{tail_part}
use Rattle.silk_sigproc.specs.Dot.{dot}
use Rattle.silk_sigproc.proofs.energy_from.Goals as goal

pub returns : goal.returns
returns c =
    let f = c.silk_inner_prod_aligned in
    let a = c.args in
    (r_got w32 f.type_inv (f.ensures ∙ ap (λ (x : List ℤ). wrap w32 (dot x x a.len)) (tail_part a.start a.x.now))).val
