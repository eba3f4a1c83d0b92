-- `stage1::search_stage1` meets its contract: the arrays that the sort leaves are the ranking of the scores.
use Rattle.std.proofs.Common.{Option, Some, None, Result, Ok, Err, ok_or, ◌≡◌, sym, ap, ◌∙◌, false, List, [], ℕ, ◌≤◌, ◌<◌, ℤ, arith, length, take, get_or, get_or-take, length-take-le, w32, to_z, of_z}
use Rattle.std.proofs.lemmas.Result.{err_from_is_err_and}
use Rattle.answers.specs.declared.NoPitch.{NoPitch}
use Rattle.answers.specs.declared.NoPitch.TheVariants.{ZeroDivisor as ByZero}
use Rattle.answers.specs.Answer.{answer_numbers}
use Rattle.stage1.specs.declared.candidates.Candidates.{Candidates}
use Rattle.stage1.specs.Stage1.{Stage1, zero1, scores1, answer_of, stage1, screen_numbers, screen_number}
use Rattle.stage1.specs.AnswerLaws.{screen_in_numbers}
use Rattle.stage1.specs.Steps.{scored, selected}
use Rattle.stage1.specs.ScoreLaws.{scored_none, scored_some}
use Rattle.stage1.specs.KeptLaws.{stage1_zero, scores_long, indices_long, indices_low, selected_front, stage1_goes}
use Rattle.zint.specs.RuleLaws.{zneeds}
use Rattle.stage1.proofs.search_stage1.Goals as goal

-- the answer, and it in numbers
and_numbers : (r : Result Candidates NoPitch) (f : List ℤ) (nb cx : ℕ) (thres1 : ℤ) → answer_of r ≡ stage1 f nb cx thres1
    → (answer_of r ≡ stage1 f nb cx thres1) × (screen_numbers (answer_of r).screen ≡ answer_numbers (screen_number f nb) [])
and_numbers r f nb cx thres1 e = (e, ap (λ (y : Stage1). screen_numbers y.screen) e ∙ screen_in_numbers f nb cx thres1)

-- a zero divisor
no_scores : (f : List ℤ) (nb cx : ℕ) (thres1 : ℤ) (o : Option (List ℤ)) {e : NoPitch} → o ≡ scored f nb → ok_or o ByZero ≡ Err e → answer_of (Err e) ≡ stage1 f nb cx thres1
no_scores f nb cx thres1 None {e = e} h k = let z : ByZero ≡ e = cc in ap (λ (x : NoPitch). answer_of (Err x)) (sym z) ∙ stage1_zero f nb cx thres1 (scored_none f nb (sym h))
no_scores f nb cx thres1 (Some l) h k = cc

pub returns-in_err-c_combined : goal.returns-in_err-c_combined
returns-in_err-c_combined c =
    let a = c.args in
    let p = err_from_is_err_and c.from_residual.result c.from_residual.ensures.1 in
    let e : answer_of c.from_residual.result ≡ stage1 a.frame_4khz.now a.s.nb a.s.complexity a.s.thres1 =
    rw (p.1, p.2) (no_scores _ _ _ _ c.scores.result c.scores.ensures (sym c.ok_or.ensures.value ∙ c.in_err-c_combined.was)) in
    let n = and_numbers c.from_residual.result _ _ _ _ e in
    record { value = n.0; screen_number = n.1 }

-- the scores that are sorted
some_scores : (f : List ℤ) (nb : ℕ) (o : Option (List ℤ)) (l : List ℤ) → o ≡ scored f nb → ok_or o ByZero ≡ Ok l → (zero1 f nb ≡ false) × (l ≡ scores1 f nb)
some_scores f nb None l h k = cc
some_scores f nb (Some m) l h k = let z : m ≡ l = cc in let r = scored_some f nb m (sym h) in (r.0, sym z ∙ r.1)

-- the places that are searched
module _ (a : List ℤ) (d : List ℕ) (k : ℕ) (la : k ≤ length a) (ld : k ≤ length d) where
  long : length (take k a) ≡ k
  long = length-take-le k a la

  same : length (take k d) ≡ length (take k a)
  same = length-take-le k d ld ∙ sym long

  low : ((i : ℕ) → i < k → get_or d i 0 < 65) → (i : ℕ) → i < length (take k d) → get_or (take k d) i 0 < 65
  low f i l =
      let m : i < k = omega (arith, length-take-le k d ld) in
      rw (get_or-take k d i 0 m) (f i m)

pub select-requires : goal.select-requires
select-requires c =
    let n = c.search_length-length_d_srch.ensures in
    let o = c.silk_insertion_sort_decreasing_int16.ensures in
    let x = some_scores _ _ c.scores.result _ c.scores.ensures (sym c.ok_or.ensures.value ∙ c.in_ok-c_combined.was) in
    let la = scores_long _ _ _ _ _ _ x.1 o.values o.indices n.few in
    let ld = indices_long _ _ _ _ _ _ x.1 o.values o.indices n.few in
    let m = long _ _ _ la ld in
    (omega (arith, m), (omega (arith, m), (same _ _ _ la ld, low _ _ _ la ld (indices_low _ _ _ _ _ _ x.1 o.values o.indices n.few))))

pub returns : goal.returns
returns c =
    let n = c.search_length-length_d_srch.ensures in
    let o = c.silk_insertion_sort_decreasing_int16.ensures in
    let x = some_scores _ _ c.scores.result _ c.scores.ensures (sym c.ok_or.ensures.value ∙ c.in_ok-c_combined.was) in
    let thres1 : to_z w32 (of_z w32 c.args.s.thres1) ≡ c.args.s.thres1 = search zneeds in
    let z = and_numbers c.select.result _ _ _ _
    (c.select.ensures
    ∙ ap (selected _ _ _) thres1
    ∙ selected_front _ _ _ (scores_long _ _ _ _ _ _ x.1 o.values o.indices n.few) _ n.some
    ∙ stage1_goes _ _ _ _ _ _ x.1 o.values o.indices n.few _ _ n.some n.value x.0) in
    record { value = z.0; screen_number = z.1 }
