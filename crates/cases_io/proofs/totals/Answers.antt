-- `cases_io::totals` meets its contract: the sums of the tallies that the fold took.
use Rattle.std.proofs.Common.{◌≡◌, sym, ap, ap₂, ◌∙◌, subst, rules}
use Rattle.std.proofs.lemmas.Fn.{fold_over, slice_gives, fronts}
use Rattle.cases_io.specs.declared.Tally.{Tally}
use Rattle.cases_io.specs.Counts.{tally, tally_plus, totals_of}
use Rattle.cases_io.specs.CountsLaws.{totals_none, totals_next}
use Rattle.cases_io.proofs.totals.Goals as goal

pub returns : goal.returns
returns c =
    let start = ap₂ tally c.none.ensures.0 c.none.ensures.1 ∙ sym totals_none in
    subst (λ l. c.fold.result ≡ totals_of l) c.iter.ensures.rest
    (fold_over fronts (λ y. y.now) _ (λ ys s. s ≡ totals_of ys) _ (λ ys a x b f' j k. let next = ap (λ (s : Tally). tally_plus s x.now) j ∙ totals_next ys x.now in search rules)
    _ _ _ _ (slice_gives c.iter.result) start c.fold.ensures.ran)
