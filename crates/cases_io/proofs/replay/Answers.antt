-- `cases_io::replay` meets its contract: a case more, counted as it was answered.
use Rattle.std.proofs.Common.{◌≡◌, ◌<◌, length, None, refl, rules}
use Rattle.std.proofs.lemmas.Fn.{says_at}
use Rattle.std.proofs.lemmas.Result.{on_ok_weaker}
use Rattle.cases_io.specs.Replay.{tally_answered, case_size}
use Rattle.cases_io.specs.ReplayLaws.{replayed_more, replayed_none}
use Rattle.cases_io.proofs.replay.Goals as goal

pub loop-rest-preserved-in-Some : goal.loop-rest-preserved-in-Some
unfolding tally_answered
loop-rest-preserved-in-Some g c = λ u r.
    let some : 0 < length c.loop-rest.rest.now = search rules in
    let cut : c.min.result ≡ case_size c.size.result c.loop-rest.rest.now = search rules in
    c.loop-rest.invariant u
    (replayed_more _ _ _ some (says_at g.S.Fn c.size.ensures refl) (says_at g.A.Fn c.agrees.ensures c.in-Some.is) cut c.split_at.ensures.front c.split_at.ensures.back c.counted-tally.ensures r)

pub loop-rest-preserved : goal.loop-rest-preserved
unfolding tally_answered
loop-rest-preserved g c = λ u r.
    let some : 0 < length c.loop-rest.rest.now = search rules in
    let cut : c.min.result ≡ case_size c.size.result c.loop-rest.rest.now = search rules in
    let none : c.agrees.result ≡ None = search rules in
    c.loop-rest.invariant u
    (replayed_more _ _ None some (says_at g.S.Fn c.size.ensures refl) (says_at g.A.Fn c.agrees.ensures none) cut c.split_at.ensures.front c.split_at.ensures.back refl r)

pub returns : goal.returns
returns g c =
    let none : length c.loop-rest.rest.now ≡ 0 = search rules in
    on_ok_weaker c.print.result (λ a. (c.loop-rest.tally, c.loop-rest.invariant _ (replayed_none _ _ none), a)) c.print.ensures
