-- `stage2_correlations::correlate` meets its contract.
use Rattle.std.proofs.Common.{ap₂, ◌∙◌, List, ◌-◌, ℤ, w32}
use Rattle.zint.specs.Wrap.{wrap}
use Rattle.zint.specs.ReadLaws.{r_var, r_got}
use Rattle.lists.specs.FillLaws.{tail_part}
use Rattle.silk_sigproc.specs.Dot.{dot}
use Rattle.stage2_correlations.specs.Rows.{ratio_of, at_lag}
use Rattle.stage2_correlations.proofs.correlate.Goals as goal

pub returns : goal.returns
unfolding at_lag
returns c =
    let a = c.args in
    let e = a.frame_8khz.now in
    let x = c.silk_inner_prod_aligned in
    let v = (r_got w32 x.type_inv (x.ensures ∙ ap₂ (λ (y z : List ℤ). wrap w32 (dot y z 40)) (tail_part a.target e) (tail_part (a.target - a.d) e))).val in
    c.divide.ensures ∙ ap₂ ratio_of v (r_var c.ranges.norm).val
