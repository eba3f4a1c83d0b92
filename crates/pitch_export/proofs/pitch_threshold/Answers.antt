-- `pitch_export::pitch_threshold` meets its contract.
use Rattle.std.proofs.Common.{◌≡◌, sym, ap, ◌∙◌, ℤ, w32, SFits, to_z, of_z, Result, ℕ}
use Rattle.zint.specs.ReadLaws.{r_var}
use Rattle.zint.specs.RuleLaws.{zneeds}
use Rattle.speech_threshold.specs.Threshold.{threshold_call}
use Rattle.refusals.specs.declared.Refusal.{Refusal}
use Rattle.refusals.specs.Refusals.{told}
use Rattle.pitch_export.specs.ThresholdExport.{threshold_exported, export_threshold, export_threshold_call}
use Rattle.pitch_export.proofs.pitch_threshold.Goals as goal

-- the threshold call's answer in the lent place, of the numbers as the code hands them on
exports : (order activity type tilt old : ℤ) {a : Result ℤ ℕ} → SFits w32 order → SFits w32 activity → SFits w32 type → SFits w32 tilt
    → a ≡ threshold_call (to_z w32 (of_z w32 order)) (to_z w32 (of_z w32 activity)) (to_z w32 (of_z w32 type)) (to_z w32 (of_z w32 tilt))
    → export_threshold a old ≡ export_threshold_call order activity type tilt old
unfolding export_threshold_call
exports order activity type tilt old f g h k e =
    ap (λ (a : Result ℤ ℕ). export_threshold a old)
    (e ∙ (λ i. threshold_call ((r_var f).val i) ((r_var g).val i) ((r_var h).val i) ((r_var k).val i)))

pub returns-in-Err : goal.returns-in-Err
returns-in-Err c =
    let p = c.args in
    let r = c.ranges in
    let old = p.threshold.now in
    ap (λ (n : ℕ). threshold_exported n old) c.number.ensures ∙ ap (λ (a : Result ℤ Refusal). export_threshold (told a) old) (sym c.in-Err.is)
    ∙ exports p.order p.activity p.signal_type p.tilt old r.order r.activity r.signal_type r.tilt c.threshold.ensures.answer

pub returns-in-Ok : goal.returns-in-Ok
returns-in-Ok c =
    let p = c.args in
    let r = c.ranges in
    let old = p.threshold.now in
    let v = c.in-Ok in
    let q : to_z w32 (of_z w32 v.value) ≡ v.value = search zneeds in
    ap (threshold_exported 0) q
    ∙ ap (λ (a : Result ℤ Refusal). export_threshold (told a) old) (sym v.is)
    ∙ exports p.order p.activity p.signal_type p.tilt old r.order r.activity r.signal_type r.tilt c.threshold.ensures.answer
