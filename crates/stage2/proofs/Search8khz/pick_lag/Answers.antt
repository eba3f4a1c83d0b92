-- `stage2::Search8khz::pick_lag` meets its contract.
use Rattle.std.proofs.Common.{◌≡◌, sym, ap, ◌∙◌, subst, subst₂, ℕ, ◌+◌, ◌-◌, arith}
use Rattle.stage2.specs.Search.{search_in, best_with}
use Rattle.stage2.specs.SearchLaws.{AfterLags, after_none, after_next, after_all}
use Rattle.stage2.proofs.Search8khz.pick_lag.Goals as goal

pub loop-d-init : goal.loop-d-init
loop-d-init c = (omega arith, (omega arith, after_none _))

pub try_lag-best-requires : goal.try_lag-best-requires
try_lag-best-requires c = (c.loop-d.invariant.0, omega arith)

pub loop-d-preserved : goal.loop-d-preserved
loop-d-preserved c =
    let l = c.loop-d in
    let a = c.args in
    let s = search_in a.self.now.c_8khz.now a.self.now.kept.lags.now a.self.now.by in
    let n = l.d - 16 in
    let e : 16 + n ≡ l.d = omega arith in
    let k : n + 1 ≡ l.d + 1 - 16 = omega arith in
    let u = after_next s n l.best l.invariant.1.1 a.self.now.small a.self.now.at_most (omega arith) in
    let v = c.try_lag-best.ensures ∙ ap (λ (d : ℕ). best_with s d l.best) (sym e) in
    (omega arith, (omega arith, subst₂ (AfterLags s) k (sym v) u))

pub returns : goal.returns
returns c =
    let a = c.args in
    let s = search_in a.self.now.c_8khz.now a.self.now.kept.lags.now a.self.now.by in
    let e : c.loop-d.d - 16 ≡ 128 = omega arith in
    after_all s c.loop-d.best (subst (λ (n : ℕ). AfterLags s n c.loop-d.best) e c.loop-d.invariant.1.1)
