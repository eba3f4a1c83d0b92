-- `stage2::consider` meets its contract.
use Rattle.std.proofs.Common.{ap₂, ◌∙◌, true, false, Some, ℤ, w32, SFits, rules}
use Rattle.zint.specs.ReadLaws.{r_var, r_got, t_lt, via_lt}
use Rattle.stage2.specs.SearchLaws.{takes, keeps, fails}
use Rattle.stage2.proofs.consider.Goals as goal

pub returns-then-score-top : goal.returns-then-score-top
returns-then-score-top c =
    let a = c.args in
    let f = c.ranges in
    let cc : SFits w32 c.args.found.cc = search rules in
    let top = (r_got w32 c.top_of-top.type_inv c.top_of-top.ensures).val in
    ap₂ (λ (x y : ℤ). Some (record { top = x; cc = y; lag = a.d; contour = a.found.contour })) (r_var f.score).val (r_var cc).val
    ∙ takes a.best _ _ _ _ _ (t_lt (r_var f.thres) (r_var cc) c.if-found-thres.true) (via_lt _ _ _ _ true c.if-score-top.true top (r_var f.score).val)

pub returns-else-score-top : goal.returns-else-score-top
returns-else-score-top c =
    let f = c.ranges in
    let cc : SFits w32 c.args.found.cc = search rules in
    let top = (r_got w32 c.top_of-top.type_inv c.top_of-top.ensures).val in
    keeps c.args.best _ _ _ _ _ (t_lt (r_var f.thres) (r_var cc) c.if-found-thres.true) (via_lt _ _ _ _ false c.if-score-top.false top (r_var f.score).val)

pub returns-else-found-thres : goal.returns-else-found-thres
returns-else-found-thres c =
    let cc : SFits w32 c.args.found.cc = search rules in
    fails c.args.best _ _ _ _ _ (t_lt (r_var c.ranges.thres) (r_var cc) c.if-found-thres.false)
