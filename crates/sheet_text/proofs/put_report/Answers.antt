-- `sheet_text::put_report` meets its contract.
use Rattle.std.proofs.Common.{arith}
use Rattle.pitch_settings.specs.SettingsLaws.{held_settings}
use Rattle.pitch_text.specs.TextLaws.{put_then}
use Rattle.sheet_text.specs.Program.{sheet_report}
use Rattle.sheet_text.proofs.put_report.Goals as goal

pub put_lines-requires : goal.put_lines-requires
put_lines-requires c =
    let h = c.put_head-p in (
      omega (arith, (held_settings c.args.settings.settings c.args.settings.held).nb_high),
      omega (arith, c.requires.0),
      omega (arith, h.ensures.1, h.auto.out, c.requires.0, c.requires.1),
    )

pub returns : goal.returns
unfolding sheet_report
returns c =
    let l = c.put_lines.ensures in
    let h = c.put_head-p.ensures in
    (put_then h.0 l.0, omega (arith, l.1, h.1, c.requires.0))
