-- `recording_head::head_known` meets its contract.
use Rattle.std.proofs.Common.{sym, ap, ◌∙◌, is_ok}
use Rattle.recording_head.specs.declared.Head.{Head}
use Rattle.recording_head.specs.Head.{head_known}
use Rattle.recording_head.specs.HeadLaws.{kind_known}
use Rattle.recording_head.proofs.head_known.Goals as goal

pub returns-in-Plain : goal.returns-in-Plain
unfolding head_known
returns-in-Plain c = ap (λ (h : Head). head_known h c.args.bytes.now) (sym c.in-Plain.is)

pub returns-in-Options : goal.returns-in-Options
unfolding head_known
returns-in-Options c =
    c.is_ok.ensures.value ∙ ap is_ok c.try_from.ensures ∙ kind_known _ ∙ ap (λ (h : Head). head_known h c.args.bytes.now) (sym c.in-Options.is)
