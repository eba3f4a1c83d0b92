-- `frames_text::record_length` meets its contract.
use Rattle.std.proofs.Common.{refl, sym, ap, ◌∙◌, arith}
use Rattle.pitch_settings.specs.Settings.{settings_no}
use Rattle.refusals.specs.Refusals.{refusal_number}
use Rattle.refusals.specs.RefusalsLaws.{refused_positive}
use Rattle.frames_text.specs.Frames.{record_size}
use Rattle.frames_text.specs.FramesLaws.{length_head, length_wrong, length_whole}
use Rattle.frames_text.proofs.record_length.Goals as goal

pub returns-then-len-lt-RECORD_HEAD : goal.returns-then-len-lt-RECORD_HEAD
returns-then-len-lt-RECORD_HEAD c = (length_head c.args.head.now c.if-len-lt-RECORD_HEAD.true, omega arith, omega (arith, c.requires))

pub returns-in-Ok : goal.returns-in-Ok
returns-in-Ok c =
    let t = c.in-Ok.ensures.settings ∙ c.settings_in.ensures in
    let r = c.record_size.ensures in
    (r.0 ∙ ap record_size t ∙ length_whole c.args.head.now c.if-len-lt-RECORD_HEAD.false (ap settings_no (sym t) ∙ c.in-Ok.s.analysed), omega (arith, r.1, c.requires), r.2)

pub returns-in-Err : goal.returns-in-Err
returns-in-Err c =
    let r = c.in-Err.field-0 in (
      length_wrong c.args.head.now c.if-len-lt-RECORD_HEAD.false (refusal_number r) (c.in-Err.ensures.number ∙ ap settings_no c.settings_in.ensures) (refused_positive r refl),
      omega arith,
      omega (arith, c.requires),
    )
