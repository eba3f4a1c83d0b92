-- `pitch_export::pitch_frame` meets its contract.
use Rattle.std.proofs.Common.{◌≡◌, sym, ap, ◌∙◌, List, ℤ, w32, SFits, to_z, of_z, Result, ℕ}
use Rattle.zint.specs.ReadLaws.{r_var}
use Rattle.silk_pitch_analysis.specs.declared.Verdict.{Verdict}
use Rattle.silk_pitch_analysis.specs.Frame.{frame_outcome, frame_call}
use Rattle.refusals.specs.declared.Refusal.{Refusal}
use Rattle.refusals.specs.Refusals.{told}
use Rattle.pitch_export.specs.Export.{export_settings, lent_numbers, exported, export_answer, export_call}
use Rattle.pitch_export.specs.ExportLaws.{export_is}
use Rattle.pitch_export.proofs.pitch_frame.Goals as goal

-- the frame call's outcome in the lent numbers, of the numbers as the code hands them on
exports : (rate nb cx : ℕ) (thres1 thres2 : ℤ) (x l : List ℤ) (prev corr : ℤ) (old : List ℤ) {a : Result Verdict ℕ} {m : List ℤ} → SFits w32 thres1 → SFits w32 thres2 → SFits w32 prev → SFits w32 corr
    → frame_outcome a m ≡ frame_call (export_settings rate nb cx (to_z w32 (of_z w32 thres1)) (to_z w32 (of_z w32 thres2))) x l (to_z w32 (of_z w32 prev)) (to_z w32 (of_z w32 corr))
    → export_answer a m old ≡ export_call (export_settings rate nb cx thres1 thres2) x l prev corr old
exports rate nb cx thres1 thres2 x l prev corr old {a} {m} f g h k e =
    export_is (export_settings rate nb cx thres1 thres2) x l prev corr old a m
    (e ∙ (λ i. frame_call (export_settings rate nb cx ((r_var f).val i) ((r_var g).val i)) x l ((r_var h).val i) ((r_var k).val i)))

pub returns-in-Err : goal.returns-in-Err
returns-in-Err c =
    let p = c.args in
    let r = c.ranges in
    let f = c.silk_pitch_analysis_core in
    let old = lent_numbers p.verdict.now p.index.now p.contour.now p.correlation.now in
    let e = exports p.rate p.nb p.complexity p.thres1 p.thres2 p.frame.now p.pitch_out.now p.prev_lag p.prev_corr old r.thres1 r.thres2 r.prev_lag r.prev_corr f.ensures.outcome in
    ap (λ (n : ℕ). exported n f.new.pitch_out old) c.number.ensures ∙ ap (λ (a : Result Verdict Refusal). export_answer (told a) f.new.pitch_out old) (sym c.in-Err.is) ∙ e

pub returns-in-Ok : goal.returns-in-Ok
returns-in-Ok c =
    let p = c.args in
    let r = c.ranges in
    let f = c.silk_pitch_analysis_core in
    let old = lent_numbers p.verdict.now p.index.now p.contour.now p.correlation.now in
    let e = exports p.rate p.nb p.complexity p.thres1 p.thres2 p.frame.now p.pitch_out.now p.prev_lag p.prev_corr old r.thres1 r.thres2 r.prev_lag r.prev_corr f.ensures.outcome in
    ap (exported 0 f.new.pitch_out) c.put_verdict.ensures ∙ ap (λ (a : Result Verdict Refusal). export_answer (told a) f.new.pitch_out old) (sym c.in-Ok.is) ∙ e
