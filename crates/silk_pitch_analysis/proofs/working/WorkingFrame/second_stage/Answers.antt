-- `WorkingFrame::second_stage` meets its contract.
use Rattle.std.proofs.Common.{◌≡◌, refl, sym, ap, ◌∙◌, List, arith, ℤ, Err}
use Rattle.std.proofs.lemmas.Result.{err_from_is_err_and}
use Rattle.answers.specs.declared.NoPitch.{NoPitch}
use Rattle.answers.specs.declared.NoPitch.TheVariants.{Unvoiced as HasNone, ZeroDivisor as ByZero}
use Rattle.pitch_settings.specs.declared.Settings.{Settings}
use Rattle.pitch_settings.specs.SettingsLaws.{accepted_settings}
use Rattle.stage2.specs.Stage2.{answer_of}
use Rattle.stage2.specs.MeaningLaws.{winner_range}
use Rattle.silk_pitch_analysis.specs.Frame.{from_winner}
use Rattle.silk_pitch_analysis.specs.Steps.{verdict_without}
use Rattle.silk_pitch_analysis.proofs.working.WorkingFrame.second_stage.Goals as goal

-- the verdict where there is no winner
without : (s : Settings) (w : List ℤ) (x : NoPitch) → verdict_without x ≡ from_winner s w (answer_of (Err x))
without s w HasNone = refl
without s w ByZero = refl

pub search_stage2-requires : goal.search_stage2-requires
search_stage2-requires c =
    let p = c.requires in
    let a = accepted_settings _ c.args.self.settings.analysed in
    record { rate = a.rate; subframes = a.subframes; complexity = omega (arith, a.complexity); long = omega (arith, p.eight); lags = p.kept }

pub returns-in_err-winner : goal.returns-in_err-winner
returns-in_err-winner c =
    let a = c.args in
    let q = c.search_stage2.ensures.value in
    let p = err_from_is_err_and c.from_residual.result c.from_residual.ensures.1 in
    rw (p.1, p.2) (without a.self.settings.settings a.self.samples.now _ ∙ ap (from_winner a.self.settings.settings a.self.samples.now) (ap answer_of (sym c.in_err-winner.was) ∙ q))

pub last_stage-requires : goal.last_stage-requires
last_stage-requires c =
    let a = c.args in
    let q = c.search_stage2.ensures.value in
    let r = winner_range a.e.now a.kept.now a.self.settings.settings.rate a.self.settings.settings.nb a.self.settings.settings.complexity a.self.settings.settings.thres2 a.prev.lag a.prev.correlation _ _ _ (sym q ∙ ap answer_of c.in_ok-winner.was) in
    record { low = r.0; high = r.1.0; tried = r.1.1 }

pub returns : goal.returns
returns c =
    let a = c.args in
    let q = c.search_stage2.ensures.value in
    c.last_stage.ensures ∙ ap (from_winner a.self.settings.settings a.self.samples.now) (ap answer_of (sym c.in_ok-winner.was) ∙ q)
