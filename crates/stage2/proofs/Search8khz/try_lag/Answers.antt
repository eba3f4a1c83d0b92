-- `stage2::Search8khz::try_lag` meets its contract.
use Rattle.std.proofs.Common.{◌≡◌, sym, ap, ◌∙◌, ℕ, ℤ, w32, to_z, of_z}
use Rattle.zint.specs.ReadLaws.{r_got}
use Rattle.stage2.specs.declared.Along.{Along}
use Rattle.stage2.specs.Scores.{best_contour, lag_sum, Search2, biased2, score2}
use Rattle.stage2.specs.ScoreLaws.{lag_small}
use Rattle.stage2.specs.Search.{search_in, along, considered}
use Rattle.stage2.specs.SearchLaws.{with_listed, with_unlisted}
use Rattle.zint.specs.RuleLaws.{zneeds}
use Rattle.stage2.proofs.Search8khz.try_lag.Goals as goal

-- the lag's sum and contour, from those of the code's search
module _ (s : Search2) (d : ℕ) (found : Along) (e : found ≡ along s.correlations s.subframes s.contours d) where
  sum_is : found.cc ≡ lag_sum s.correlations s.subframes s.contours d
  unfolding along
  sum_is = ap (λ (x : Along). x.cc) e

  contour_is : found.contour ≡ best_contour s.correlations s.subframes s.contours d
  unfolding along
  contour_is = ap (λ (x : Along). x.contour) e

pub biased_score-score-requires : goal.biased_score-score-requires
biased_score-score-requires c =
    let a = c.args in
    let h = a.self.now in
    let s = search_in a.self.now.c_8khz.now a.self.now.kept.lags.now a.self.now.by in
    let x = c.best_contour-found in
    let held : to_z w32 (of_z w32 x.result.cc) ≡ x.result.cc = search zneeds in
    rw (held ∙ sum_is s a.d x.result x.ensures) (lag_small s.correlations s.subframes a.d h.small c.requires.0 c.requires.1 s.contours h.at_most, (h.at_most, c.requires.1))

pub returns-then-is_listed : goal.returns-then-is_listed
unfolding score2
returns-then-is_listed c =
    let a = c.args in
    let s = search_in a.self.now.c_8khz.now a.self.now.kept.lags.now a.self.now.by in
    let x = c.best_contour-found in
    let f = c.biased_score-score in
    let by = a.self.now.by in
    let held : to_z w32 (of_z w32 x.result.cc) ≡ x.result.cc = search zneeds in
    let thres : to_z w32 (of_z w32 by.thres) ≡ by.thres = search zneeds in
    let summed = sum_is s a.d x.result x.ensures in
    let contour = contour_is s a.d x.result x.ensures in
    let e = (r_got w32 f.type_inv (f.ensures ∙ ap (λ (z : ℤ). biased2 z by.nb a.d by.prev.lag by.prev.correlation) (held ∙ summed))).val in
    c.consider.ensures
    ∙ (λ t. considered a.best a.d (summed t) (contour t) (e t) (thres t))
    ∙ with_listed s a.d a.best (sym c.is_listed.ensures ∙ c.if-is_listed.true)

pub returns-else-is_listed : goal.returns-else-is_listed
returns-else-is_listed c =
    let a = c.args in
    with_unlisted (search_in a.self.now.c_8khz.now a.self.now.kept.lags.now a.self.now.by) a.d a.best (sym c.is_listed.ensures ∙ c.if-is_listed.false)
