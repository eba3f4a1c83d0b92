-- `frames_text::check` meets its contract.
use Rattle.std.proofs.Common.{◌≡◌, sym, ap, ◌∙◌, arith, rules}
use Rattle.pitch_settings.specs.Settings.{settings_no}
use Rattle.refusals.specs.Refusals.{number_told}
use Rattle.frames_text.specs.Frames.{record_size}
use Rattle.frames_text.specs.FramesLaws.{no_head, no_refused, no_cut, no_none}
use Rattle.frames_text.proofs.check.Goals as goal

pub returns-then-len-lt-RECORD_HEAD-clause-number : goal.returns-then-len-lt-RECORD_HEAD-clause-number
returns-then-len-lt-RECORD_HEAD-clause-number c = no_head c.args.bytes.now c.if-len-lt-RECORD_HEAD.true

pub returns-in_err-s-clause-number : goal.returns-in_err-s-clause-number
returns-in_err-s-clause-number c =
    let n : number_told c.from_residual.result ≡ settings_no c.settings_in.result = search rules in
    no_refused c.args.bytes.now c.if-len-lt-RECORD_HEAD.false c.from_residual.result c.from_residual.ensures.0 (n ∙ ap settings_no c.settings_in.ensures)

pub returns-then-len-record_size-clause-number : goal.returns-then-len-record_size-clause-number
returns-then-len-record_size-clause-number c =
    let t = c.in_ok-s.ensures.settings ∙ c.settings_in.ensures in
    no_cut c.args.bytes.now c.if-len-lt-RECORD_HEAD.false (ap settings_no (sym t) ∙ c.in_ok-s.s.analysed) (omega (arith, c.if-len-record_size.true, c.record_size.ensures.0, ap record_size t))

pub returns-clause-number : goal.returns-clause-number
returns-clause-number c =
    let t = c.in_ok-s.ensures.settings ∙ c.settings_in.ensures in
    no_none c.args.bytes.now c.if-len-lt-RECORD_HEAD.false (ap settings_no (sym t) ∙ c.in_ok-s.s.analysed) (omega (arith, c.if-len-record_size.false, c.record_size.ensures.0, ap record_size t))
