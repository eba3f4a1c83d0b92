-- `recording_head::second_in` meets its contract.
use Rattle.std.proofs.Common.{sym, ap, ◌∙◌, w32}
use Rattle.std.specs.Result.{result_unwrap_or}
use Rattle.zint.specs.ReadLaws.{r_got}
use Rattle.track_settings.specs.declared.SecondThreshold.TheVariants.{Fixed, FromSpeech}
use Rattle.recording_head.specs.declared.Kind.TheVariants as kinds
use Rattle.recording_head.specs.Head.{second_in}
use Rattle.recording_head.specs.HeadLaws.{kind_speech, kind_fixed}
use Rattle.recording_head.proofs.second_in.Goals as goal

pub returns-in-Fixed : goal.returns-in-Fixed
unfolding second_in
returns-in-Fixed c =
    let read = sym (c.unwrap_or.ensures ∙ ap (λ k. result_unwrap_or k kinds.Fixed) c.try_from.ensures) ∙ c.in-Fixed.is in
    rw (kind_fixed c.args.number read) (ap Fixed (r_got w32 c.i32_at.type_inv c.i32_at.ensures).val)

pub returns-in-FromSpeech : goal.returns-in-FromSpeech
unfolding second_in
returns-in-FromSpeech c =
    let read = sym (c.unwrap_or.ensures ∙ ap (λ k. result_unwrap_or k kinds.Fixed) c.try_from.ensures) ∙ c.in-FromSpeech.is in
    rw (kind_speech c.args.number read) (ap FromSpeech c.speech_in.ensures)
