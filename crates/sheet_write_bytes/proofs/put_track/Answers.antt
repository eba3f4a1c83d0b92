-- `sheet_write_bytes::put_track` meets its contract.
use Rattle.std.proofs.Common.{◌≡◌, List, ℕ, ℤ, ap, ◌∙◌}
use Rattle.pitch_settings.specs.declared.Settings.{Settings}
use Rattle.pitch_sheet.specs.Calls.{WriteOutcome, write_call}
use Rattle.track_settings.specs.declared.TrackSettings.{TrackSettings}
use Rattle.track_settings.specs.TrackSettings.{stored_settings}
use Rattle.pitch_track.specs.Step.{Said, DeliveryOutcome, delivery_outcome, start_call, deliver_call}
use Rattle.sheet_write_bytes.specs.ProgramLaws.{rows_left, sheet_put}
use Rattle.sheet_write_bytes.proofs.put_track.Goals as goal

-- what the delivery leaves, after the start s
delivered : (k : TrackSettings) (t x : List ℤ) (s : Said) (d : DeliveryOutcome) → d ≡ deliver_call s.track t x → s ≡ start_call k → d ≡ deliver_call (start_call k).track t x
delivered k t x s d e q = e ∙ ap (λ (r : Said). deliver_call r.track t x) q

-- what is written, with the settings v that the sheet stores
written : (k : TrackSettings) (v : Settings) (frames : ℕ) (table : List ℤ) (page : List ℕ) (w : WriteOutcome) → w ≡ write_call v frames table page → v ≡ stored_settings k
    → w ≡ write_call (stored_settings k) frames table page
written k v frames table page w e q = e ∙ ap (λ (s : Settings). write_call s frames table page) q

pub returns : goal.returns
returns c =
    let r = c.args.recorded in
    let o = delivery_outcome c.deliver-delivered.result c.deliver-delivered.new.table in
    let d = delivered r.settings _ _ _ o c.deliver-delivered.ensures.table_after c.start-started.ensures.value in
    let w = written r.settings _ _ _ c.args.out.now _ c.write_sheet.ensures.page_after c.stored-stored.ensures in
    let p = sheet_put r.settings c.args.table.now r.samples.now c.args.out.now r.accepted c.requires.0 c.requires.1 o d c.write_sheet.result c.write_sheet.new.page w in
    (c.unwrap_or.ensures ∙ p.0, p.1, rows_left r.settings c.args.table.now r.samples.now c.args.out.now r.accepted c.requires.0 c.requires.1 o d)
