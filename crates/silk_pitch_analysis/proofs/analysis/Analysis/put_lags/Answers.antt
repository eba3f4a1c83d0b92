-- `Analysis::put_lags` meets its contract.
use Rattle.std.proofs.Common.{◌≡◌, ap, ◌∙◌, arith, length-take-le, sym, ℕ, List, ◌++◌, ◌≤◌, length, take, drop, w32}
use Rattle.zint.specs.ReadLaws.{r_got}
use Rattle.lists.specs.Fill.{tabulate, filled}
use Rattle.lists.specs.FillLaws.{filled_none, filled_turn, filled_all}
use Rattle.silk_pitch_analysis.specs.Frame.{lag_of}
use Rattle.silk_pitch_analysis.proofs.analysis.Analysis.put_lags.Goals as goal

-- the first n places filled to their end, before the others
front_filled : {A : Type 0} (f : ℕ → A) (n k : ℕ) (l : List A) {front : List A} → n ≡ k → length (take n l) ≤ k → front ≡ filled f k (take n l)
    → front ++ drop n l ≡ filled f n l
unfolding filled
front_filled f n k l e h p = ap (λ t. t ++ drop n l) (p ∙ filled_all f k (take n l) h ∙ ap (tabulate f) (sym e))

pub loop-k-init : goal.loop-k-init
loop-k-init c = filled_none _ _

pub loop-k-preserved : goal.loop-k-preserved
loop-k-preserved c =
    let v = (r_got w32 c.lag.type_inv c.lag.ensures).val in
    filled_turn (lag_of c.args.self.settings.settings c.args.self.verdict) c.loop-k.k _ c.loop-k.invariant v c.loop-k-test.true

pub returns : goal.returns
returns c =
    let nb = c.args.self.settings.settings.nb in
    let long = length-take-le nb c.args.out.now c.requires in
    front_filled _ nb c.loop-k.k _ (omega (arith, long)) c.loop-k-test.false c.loop-k.invariant
