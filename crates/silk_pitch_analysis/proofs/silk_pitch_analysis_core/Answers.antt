-- `silk_pitch_analysis::silk_pitch_analysis_core` meets its contract.
use Rattle.std.proofs.Common.{◌≡◌, sym, ap, ◌∙◌, rules, ℤ, List, Ok, length, take}
use Rattle.zint.specs.ReadLaws.{r_var}
use Rattle.pitch_settings.specs.declared.analysed.Analysed.{Analysed}
use Rattle.pitch_settings.specs.Settings.{settings_no, frame_length}
use Rattle.refusals.specs.Refusals.{number_told}
use Rattle.silk_pitch_analysis.specs.Frame.{verdict_of, frame_no, frame_outcome, analysed}
use Rattle.silk_pitch_analysis.specs.FrameLaws.{frame_taken, frame_refused, answer_told}
use Rattle.silk_pitch_analysis.proofs.silk_pitch_analysis_core.Goals as goal

-- a refusal, with the lag places as they were
pub returns-in_err-analysed : goal.returns-in_err-analysed
returns-in_err-analysed c =
    let a = c.args in
    let n : number_told c.from_residual.result ≡ frame_no a.s (length a.frame.now) (length a.pitch_out.now) = search rules in
    let t = answer_told a.s a.frame.now a.pitch_out.now a.prev_lag a.prev_corr _ _ (frame_refused a.s a.frame.now a.pitch_out.now a.prev_lag a.prev_corr c.from_residual.result c.from_residual.ensures.0 n) in
    record { outcome = t.0; numbers = t.1 }

pub returns : goal.returns
unfolding analysed
returns c =
    let a = c.args in
    let f = c.ranges in
    let o = c.in_ok-analysed in
    let e = o.ensures.settings in
    let v = c.of-found.ensures.verdict ∙ (λ i. verdict_of (e i) (take (frame_length (e i)) a.frame.now) ((r_var f.prev_lag).val i) ((r_var f.prev_corr).val i)) in
    let s = ap (λ (x : Analysed). x.settings) c.of-found.ensures.settings ∙ e in
    let t = answer_told a.s a.frame.now a.pitch_out.now a.prev_lag a.prev_corr _ _
    (ap (λ (l : List ℤ). frame_outcome (Ok c.of-found.result.verdict) l) c.put_lags.ensures
    ∙ (λ i. analysed (s i) (v i) a.pitch_out.now)
    ∙ sym (frame_taken a.s a.frame.now a.pitch_out.now a.prev_lag a.prev_corr (ap settings_no (sym e) ∙ o.analysed.analysed) o.ensures.samples o.ensures.places)) in
    record { outcome = t.0; numbers = t.1 }
