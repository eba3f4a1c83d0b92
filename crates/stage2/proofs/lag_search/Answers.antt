-- `stage2::lag_search` meets its contract.
use Rattle.std.proofs.Common.{◌≡◌, ap, ap₂, ◌∙◌, arith, w32, to_z, of_z}
use Rattle.zint.specs.RuleLaws.{zneeds}
use Rattle.zint.specs.ReadLaws.{r_nat, r_got}
use Rattle.silk_macros.specs.Macros.{smulbb}
use Rattle.stage2.specs.Scores.{prev_8khz}
use Rattle.stage2.specs.ScoreLaws.{threshold_is}
use Rattle.stage2.proofs.lag_search.Goals as goal

pub returns : goal.returns
returns c =
    let m = c.silk_smulbb in
    let n = c.nb_cbk_search_stage2 in
    let s = c.args.s in
    let g = c.previous_8khz in
    let thres2 : to_z w32 (of_z w32 s.thres2) ≡ s.thres2 = search zneeds in
    let prev : to_z w32 (of_z w32 c.args.prev.lag) ≡ c.args.prev.lag = search zneeds in
    let corr : to_z w32 (of_z w32 c.args.prev.correlation) ≡ c.args.prev.correlation = search zneeds in
    let t = (r_got w32 m.type_inv (m.ensures ∙ ap₂ smulbb (r_nat w32 s.nb (omega arith)).val thres2 ∙ threshold_is s.nb s.thres2 c.requires)).val in
    let p = (r_got w32 g.type_inv (g.ensures ∙ ap (prev_8khz s.rate) prev)).val in
    λ i. record { nb = s.nb; contours = n.ensures i; thres = t i; prev = record { lag = p i; correlation = corr i } }
