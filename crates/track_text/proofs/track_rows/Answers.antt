-- `track_text::track_rows` meets its contract.
use Rattle.std.proofs.Common.{ap, ◌∙◌}
use Rattle.pitch_track.specs.Step.{Said, delivery_outcome, deliver_call}
use Rattle.track_text.specs.ProgramLaws.{tracked}
use Rattle.track_text.proofs.track_rows.Goals as goal

pub returns : goal.returns
returns c =
    let r = c.args.recorded in
    let d = c.deliver-delivered in
    tracked r.settings c.args.table.now r.samples.now r.accepted r.few c.requires (delivery_outcome d.result d.new.table)
    (d.ensures.table_after ∙ ap (λ (t : Said). deliver_call t.track c.args.table.now r.samples.now) c.start-started.ensures.value)
