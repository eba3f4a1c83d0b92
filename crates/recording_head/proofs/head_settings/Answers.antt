-- `recording_head::head_settings` meets its contract.
use Rattle.std.proofs.Common.{sym, ap, ◌∙◌}
use Rattle.track_settings.specs.TrackSettings.{fixed_settings}
use Rattle.recording_head.specs.declared.Head.{Head}
use Rattle.recording_head.specs.Head.{head_settings}
use Rattle.recording_head.proofs.head_settings.Goals as goal

pub returns-in-Plain : goal.returns-in-Plain
unfolding head_settings
returns-in-Plain c =
    c.from.ensures
    ∙ ap fixed_settings c.settings_in.ensures
    ∙ ap (λ (h : Head). head_settings h c.args.bytes.now) (sym c.in-Plain.is)

pub returns-in-Options : goal.returns-in-Options
unfolding head_settings
returns-in-Options c = c.options_settings.ensures ∙ ap (λ (h : Head). head_settings h c.args.bytes.now) (sym c.in-Options.is)
