-- `cases_threshold::agrees` meets its contract.
use Rattle.std.proofs.Common.{[], ◌∷◌, sym, ap, ◌∙◌, w32}
use Rattle.zint.specs.ReadLaws.{r_got}
use Rattle.answers.specs.Answer.{answer_numbers}
use Rattle.speech_threshold.specs.Threshold.{threshold_call, threshold_answer_numbers}
use Rattle.cases_threshold.proofs.agrees.Goals as goal

pub returns : goal.returns
returns c = λ e.
    let order = r_got w32 c.i32_at.type_inv c.i32_at.ensures in
    let activity = r_got w32 c.i32_at-2.type_inv c.i32_at-2.ensures in
    let type = r_got w32 c.i32_at-signal_type.type_inv c.i32_at-signal_type.ensures in
    let tilt = r_got w32 c.i32_at-3.type_inv c.i32_at-3.ensures in
    let value = r_got w32 c.i32_at-threshold.type_inv c.i32_at-threshold.ensures in
    let answer = c.threshold.ensures.answer ∙ (λ i. threshold_call (order.val i) (activity.val i) (type.val i) (tilt.val i)) in
    ap threshold_answer_numbers (sym answer) ∙ c.says.ensures e ∙ (λ i. answer_numbers (c.u32_at-number.ensures.0 i) (value.val i ∷ []))
