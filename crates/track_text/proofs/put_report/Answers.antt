-- `track_text::put_report` meets its contract.
use Rattle.std.proofs.Common.{◌≡◌, ap, ap₂, ◌∙◌, ℕ, ◌*◌, ◌≤◌, arith, pos, length}
use Rattle.pitch_table.specs.Row.{row_size}
use Rattle.pitch_settings.specs.declared.Settings.{Settings}
use Rattle.pitch_settings.specs.Settings.{settings_no}
use Rattle.pitch_settings.specs.SettingsLaws.{accepted_settings}
use Rattle.track_settings.specs.TrackSettings.{stored_settings}
use Rattle.track_settings.specs.TrackSettingsLaws.{known}
use Rattle.track_paper.specs.Paper.{paper_row, no_previous}
use Rattle.pitch_text.specs.Text.{lines_text}
use Rattle.pitch_text.specs.TextLaws.{put_then, put_as, rows_taken, lines_taken, lines_same}
use Rattle.track_text.specs.Program.{samples_left, track_head, track_report}
use Rattle.pitch_recording.specs.Recording.{program_frames}
use Rattle.pitch_recording.specs.RecordingLaws.{few_samples}
use Rattle.track_text.specs.ProgramLaws.{left_within, tracked_row}
use Rattle.track_text.proofs.put_report.Goals as goal
use Rattle.track_text.proofs.put_report.Goals.{After-put_head-p}

-- the samples after the last frame, of settings s that are those of k
left_of : {n : ℕ} (m : ℕ) (s v : Settings) → n ≡ samples_left s m → s ≡ v → n ≡ samples_left v m
left_of m s v e q = e ∙ ap (λ (t : Settings). samples_left t m) q

pub invariant_of-s : goal.invariant_of-s
invariant_of-s c = record { analysed = ap settings_no c.stored.ensures ∙ known c.args.recorded.settings (pos 0) c.args.recorded.accepted }

pub overflow_cast-left : goal.overflow_cast-left
overflow_cast-left c =
    let v = stored_settings c.args.recorded.settings in
    let n = length c.args.recorded.samples.now in
    omega (arith, left_of n _ v c.samples_left-left.ensures c.stored.ensures, left_within v n, few_samples v (known c.args.recorded.settings (pos 0) c.args.recorded.accepted) n c.args.recorded.few)

-- the rows of the track lie in the table
module _ (c : After-put_head-p) where
  few : c.track_rows-frames.result ≤ program_frames
  few = omega (arith, c.track_rows-frames.ensures.count, c.args.recorded.few)

  within : c.track_rows-frames.result * row_size ≤ length c.track_rows-frames.new.table
  within = omega (arith, few, c.track_rows-frames.auto.table, c.requires.0)

pub put_lines-requires : goal.put_lines-requires
unfolding stored_settings
put_lines-requires c =
    let p = (goal.at.put_lines-requires c).After-put_head-p in
    let rows = rows_taken c.track_rows-frames.new.table c.track_rows-frames.result (within p) in (
      (accepted_settings (stored_settings c.args.recorded.settings) (known c.args.recorded.settings (pos 0) c.args.recorded.accepted)).nb_high,
      omega (arith, few p, rows),
      omega (arith, few p, rows, c.put_head-p.ensures.1, c.put_head-p.auto.out, c.requires.1),
    )

pub returns : goal.returns
unfolding track_report
returns c =
    let p = (goal.at.returns c).After-put_head-p in
    let k = c.args.recorded.settings in
    let x = c.args.recorded.samples.now in
    let t = c.track_rows-frames.new.table in
    let h = c.put_head-p.ensures in
    let l = c.put_lines.ensures in
    let r = c.track_rows-frames.ensures in
    let e = ap₂ track_head r.count (left_of (length x) _ _ c.samples_left-left.ensures c.stored.ensures) in
    let g =
    lines_taken k.nb t c.track_rows-frames.result (within p)
    ∙ lines_same k.nb _ (paper_row k x no_previous) _ (tracked_row _ _ _ _ _ r)
    ∙ ap (lines_text k.nb (paper_row k x no_previous)) r.count in
    (put_then (put_as h.0 e) (put_as l.0 g), omega (arith, l.1, h.1, few p, rows_taken t c.track_rows-frames.result (within p)), r.rows)
