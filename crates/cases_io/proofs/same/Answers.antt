-- `cases_io::same` meets its contract.
use Rattle.std.proofs.Common.{◌≡◌, ◌<◌, length, true, false, sym, ◌∙◌, refl, arith}
use Rattle.std.proofs.lemmas.Bool.{not-true, not-false}
use Rattle.std.proofs.lemmas.Option.{slice_get_read}
use Rattle.cases_io.specs.LittleLaws.{agree_none, agree_next, agree_not, agree_all}
use Rattle.cases_io.proofs.same.Goals as goal

pub loop-i-init : goal.loop-i-init
loop-i-init g c = (omega arith, agree_none _ _ _)

pub loop-i-preserved : goal.loop-i-preserved
loop-i-preserved g c =
    let within : c.loop-i.i < length c.args.xs.now = omega arith in
    let element = slice_get_read _ _ _ _ refl within c.index-xs-i.is in
    let same : g.T.PartialEq.eq c.index-xs-i.result c.nth.result ≡ true = not-false _ (sym c.ne.ensures ∙ c.if-ne.false) in
    (omega arith, agree_next _ _ _ _ _ _ c.loop-i.invariant.1 element c.nth.ensures same)

pub returns-then-ne : goal.returns-then-ne
returns-then-ne g c =
    let within : c.loop-i.i < length c.args.xs.now = omega arith in
    let element = slice_get_read _ _ _ _ refl within c.index-xs-i.is in
    let other : g.T.PartialEq.eq c.index-xs-i.result c.nth.result ≡ false = not-true _ (sym c.ne.ensures ∙ c.if-ne.true) in
    sym (agree_not _ _ _ _ _ _ _ within element c.nth.ensures other)

pub returns : goal.returns
returns g c = agree_all _ _ _ c.loop-i.invariant.1 (omega arith)
