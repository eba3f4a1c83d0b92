-- `silk_pitch_analysis::frame_row` meets its contract.
use Rattle.std.proofs.Common.{◌≡◌, sym, ap, ◌∙◌, rules, Ok, length, take}
use Rattle.zint.specs.ReadLaws.{r_var}
use Rattle.pitch_settings.specs.Settings.{settings_no, frame_length}
use Rattle.refusals.specs.Refusals.{number_told}
use Rattle.silk_pitch_analysis.specs.Frame.{frame_row, frame_no}
use Rattle.silk_pitch_analysis.specs.FrameLaws.{row_taken, row_refused, row_answer_told}
use Rattle.silk_pitch_analysis.proofs.frame_row.Goals as goal

pub returns-in_err-analysed : goal.returns-in_err-analysed
returns-in_err-analysed c =
    let a = c.args in
    let n : number_told c.from_residual.result ≡ frame_no a.s (length a.x.now) 4 = search rules in
    let t = row_answer_told a.s a.x.now a.prev_lag a.prev_corr _ (row_refused a.s a.x.now a.prev_lag a.prev_corr c.from_residual.result c.from_residual.ensures.0 n) in
    record { answer = t.0; numbers = t.1 }

pub returns : goal.returns
returns c =
    let a = c.args in
    let f = c.ranges in
    let t = c.in_ok-analysed in
    let e = t.ensures.settings in
    let row = c.analysed_row.ensures ∙ (λ i. frame_row (e i) (take (frame_length (e i)) a.x.now) ((r_var f.prev_lag).val i) ((r_var f.prev_corr).val i)) in
    let r = row_answer_told a.s a.x.now a.prev_lag a.prev_corr _
    (ap Ok row ∙ sym (row_taken a.s a.x.now a.prev_lag a.prev_corr (ap settings_no (sym e) ∙ t.analysed.analysed) t.ensures.samples)) in
    record { answer = r.0; numbers = r.1 }
