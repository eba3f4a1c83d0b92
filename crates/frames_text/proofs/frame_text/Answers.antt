-- `frames_text::frame_text` meets its contract.
use Rattle.std.proofs.Common.{Ok, Err, refl, ap₂, arith}
use Rattle.refusals.specs.Refusals.{refusal_number}
use Rattle.refusals.specs.RefusalsLaws.{refused_positive}
use Rattle.pitch_settings.specs.SettingsLaws.{accepted_settings}
use Rattle.pitch_text.specs.Text.{row_text}
use Rattle.pitch_text.specs.TextLaws.{put_as, put_count, put_over}
use Rattle.frames_text.specs.FramesLaws.{whole, text_refused, text_row, outcome}
use Rattle.frames_text.proofs.frame_text.Goals as goal

pub put_row_text-len-requires : goal.put_row_text-len-requires
put_row_text-len-requires c =
    (omega (arith, c.in-Ok.ensures.row.0, (accepted_settings _ (whole c.args.bytes.now c.in-Ok.ensures.number).known).nb_high), c.requires.1)

pub returns-in-Ok-clause-samples_after : goal.returns-in-Ok-clause-samples_after
returns-in-Ok-clause-samples_after c =
    let w = c.put_row_text-len.ensures in
    let r = c.in-Ok.ensures in
    let q = put_as (put_as w.0 (ap₂ row_text r.row.0 r.row.1)) (text_row c.args.bytes.now r.number) in
    outcome c.args.bytes.now c.args.out.now c.args.samples.now (Ok tt) (put_count q) r.number (put_over q (omega (arith, w.1, c.requires.1))) r.samples

pub returns-in-Err-clause-samples_after : goal.returns-in-Err-clause-samples_after
returns-in-Err-clause-samples_after c =
    let w = c.put_refusal-len.ensures in
    let r = c.in-Err.ensures in
    let q = put_as w.0 (text_refused c.args.bytes.now (refusal_number c.in-Err.refusal) r.number (refused_positive c.in-Err.refusal refl)) in
    outcome c.args.bytes.now c.args.out.now c.args.samples.now (Err c.in-Err.refusal) (put_count q) r.number (put_over q (omega (arith, w.1, c.requires.1))) r.samples
