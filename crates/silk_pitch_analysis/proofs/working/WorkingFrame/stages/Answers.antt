-- `WorkingFrame::stages` meets its contract.
use Rattle.std.proofs.Common.{◌≡◌, sym, ap, ◌∙◌, subst, List, ◌<◌, arith, ℤ, take, Result, Ok, Err}
use Rattle.std.proofs.lemmas.Result.{err_from_is_err_and}
use Rattle.pitch_settings.specs.declared.Settings.{Settings}
use Rattle.pitch_settings.specs.Settings.{settings_no}
use Rattle.pitch_settings.specs.SettingsLaws.{accepted_settings}
use Rattle.answers.specs.declared.NoPitch.{NoPitch}
use Rattle.answers.specs.declared.NoPitch.TheVariants.{Unvoiced as HasNone, ZeroDivisor as ByZero}
use Rattle.stage1.specs.declared.candidates.Candidates.{Candidates}
use Rattle.stage1.specs.Stage1.{Stage1, Goes, answer_of, stopped, stage1, kept_lags}
use Rattle.stage1.specs.AnswerLaws.{kept_few, kept_low, kept_high, answer_kept}
use Rattle.stage2.specs.Stage2.{stage2}
use Rattle.stage2_correlations.specs.Marks.{Kept}
use Rattle.silk_pitch_analysis.specs.Frame.{from_winner, from_screen, second_stage}
use Rattle.silk_pitch_analysis.specs.Steps.{verdict_without}
use Rattle.silk_pitch_analysis.proofs.working.WorkingFrame.stages.Goals as goal

-- stage 1's answer r, and what is kept where it goes on
module _ (s : Settings) (f : List ℤ) (h : settings_no s ≡ 0) where
  few : s.complexity < 3
  few = omega (arith, (accepted_settings s h).complexity)

  lags_kept : Kept (kept_lags f s.nb s.complexity s.thres1)
  lags_kept = record { few = kept_few f s.nb s.complexity s.thres1 few; low = kept_low f s.nb s.complexity s.thres1 few; high = kept_high f s.nb s.complexity s.thres1 few }

  module _ (r : Result Candidates NoPitch) (answer : answer_of r ≡ stage1 f s.nb s.complexity s.thres1) where
    -- what goes on
    front : (k : Candidates) → r ≡ Ok k → take k.count k.lags ≡ kept_lags f s.nb s.complexity s.thres1
    front k q =
        let a = ap answer_of (sym q) ∙ answer in
        ap (λ (x : Stage1). take x.count x.lags) a ∙ answer_kept f s.nb s.complexity s.thres1 few (ap (λ (x : Stage1). x.screen) (sym a))

    -- the verdict by the screen
    goes : (w e8 : List ℤ) (prev corr : ℤ) (k : Candidates) → r ≡ Ok k → from_screen s w e8 f prev corr Goes ≡ from_screen s w e8 f prev corr (stage1 f s.nb s.complexity s.thres1).screen
    goes w e8 prev corr k q = ap (λ (x : Stage1). from_screen s w e8 f prev corr x.screen) (ap answer_of (sym q) ∙ answer)

    without : (w e8 : List ℤ) (prev corr : ℤ) (x : NoPitch) → r ≡ Err x → verdict_without x ≡ from_screen s w e8 f prev corr (stage1 f s.nb s.complexity s.thres1).screen
    unfolding stopped
    without w e8 prev corr HasNone q = ap (λ (x : Stage1). from_screen s w e8 f prev corr x.screen) (ap answer_of (sym q) ∙ answer)
    without w e8 prev corr ByZero q = ap (λ (x : Stage1). from_screen s w e8 f prev corr x.screen) (ap answer_of (sym q) ∙ answer)

pub search_stage1-requires : goal.search_stage1-requires
search_stage1-requires c =
    let a = accepted_settings _ c.args.self.settings.analysed in
    record { subframes = a.subframes; complexity = omega (arith, a.complexity); long = omega (arith, c.requires.four) }

pub returns-in_err-kept : goal.returns-in_err-kept
returns-in_err-kept c =
    let a = c.args in
    let r = c.search_stage1 in
    let p = err_from_is_err_and c.from_residual.result c.from_residual.ensures.1 in
    rw (p.1, p.2) (without a.self.settings.settings a.f.now c.args.self.settings.analysed r.result r.ensures.value a.self.samples.now a.e.now a.prev.lag a.prev.correlation _ c.in_err-kept.was)

pub second_stage-requires : goal.second_stage-requires
second_stage-requires c =
    let a = c.args in
    let p = c.requires in
    let r = c.search_stage1 in
    let e = c.as_slice.ensures ∙ front a.self.settings.settings a.f.now a.self.settings.analysed r.result r.ensures.value _ c.in_ok-kept.was in
    record { eight = p.eight; kept = subst Kept (sym e) (lags_kept a.self.settings.settings a.f.now a.self.settings.analysed) }

pub returns : goal.returns
unfolding second_stage
returns c =
    let a = c.args in
    let r = c.search_stage1 in
    let e = c.as_slice.ensures ∙ front a.self.settings.settings a.f.now c.args.self.settings.analysed r.result r.ensures.value _ c.in_ok-kept.was in
    c.second_stage.ensures
    ∙ (λ i. from_winner a.self.settings.settings a.self.samples.now (stage2 a.e.now (e i) a.self.settings.settings.rate a.self.settings.settings.nb a.self.settings.settings.complexity a.self.settings.settings.thres2 a.prev.lag a.prev.correlation))
    ∙ goes a.self.settings.settings a.f.now c.args.self.settings.analysed r.result r.ensures.value a.self.samples.now a.e.now a.prev.lag a.prev.correlation _ c.in_ok-kept.was
