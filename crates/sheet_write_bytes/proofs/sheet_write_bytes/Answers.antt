-- `sheet_write_bytes::sheet_write_bytes` meets its contract.
use Rattle.std.proofs.Common.{◌≡◌, sym, ap, ap₂, ◌∙◌, List, ◌++◌, ℕ, ◌≤◌, arith, ℤ, length, take, length-take-le}
use Rattle.lists.specs.Fill.{overwritten}
use Rattle.recording_head.specs.declared.Head.{Head}
use Rattle.track_settings.specs.declared.TrackSettings.{TrackSettings}
use Rattle.pitch_recording.specs.Recording.{recording_samples, program_frames, recording_printed}
use Rattle.pitch_recording.specs.RecordingLaws.{IsTaken, is_taken, is_refused, any_taken, taken_room, printed_refused, printed_taken}
use Rattle.pitch_text.specs.TextLaws.{put_as, put_count, put_over}
use Rattle.track_settings.specs.TrackSettings.{stored_settings}
use Rattle.track_paper.specs.Paper.{F, paper_table}
use Rattle.track_sheet.specs.Accepted.{paper_sheet}
use Rattle.sheet_write_bytes.specs.Program.{longest_program_sheet, sheet_bytes_call}
use Rattle.sheet_write_bytes.specs.ProgramLaws.{written_refused, written_sheet, small_sheet, few_taken}
use Rattle.sheet_write_bytes.proofs.sheet_write_bytes.Goals as goal

module _ (head : Head) (b : List ℕ) (x y : List ℤ) (n : ℕ) (k : TrackSettings) (t : IsTaken head b x k n y) (e : length y ≡ length x) (h : recording_samples ≤ length x) where
  few : F (stored_settings k) (length (take n y)) ≤ program_frames
  few = rw (length-take-le _ _ (taken_room head b x y n k t e h)) t.few

  small : length (paper_sheet k (take n y)) ≤ longest_program_sheet
  small = small_sheet k (take n y) few

pub slice_bounds-recorded-end : goal.slice_bounds-recorded-end
slice_bounds-recorded-end c =
    let t = any_taken _ _ _ _ _ _ _ c.take_recording.ensures c.in-Ok.is in
    taken_room _ _ _ _ _ _ t c.take_recording.auto.samples c.requires.0

pub slice_bounds-recorded-end-in-Ok : goal.slice_bounds-recorded-end-in-Ok
slice_bounds-recorded-end-in-Ok c =
    let t = any_taken _ _ _ _ _ _ _ c.take_recording.ensures c.in-Ok.is in
    sym (length-take-le _ _ (taken_room _ _ _ _ _ _ t c.take_recording.auto.samples c.requires.0))

pub invariant_of-recorded : goal.invariant_of-recorded
invariant_of-recorded c =
    let t = any_taken _ _ _ _ _ _ _ c.take_recording.ensures c.in-Ok.is in
    record { accepted = t.accepted; few = few _ _ _ _ _ _ t c.take_recording.auto.samples c.requires.0 }

pub put_track-requires : goal.put_track-requires
put_track-requires c =
    let t = any_taken _ _ _ _ _ _ _ c.take_recording.ensures c.in-Ok.is in
    let f = few _ _ _ _ _ _ t c.take_recording.auto.samples c.requires.0 in
    let s = small _ _ _ _ _ _ t c.take_recording.auto.samples c.requires.0 in
    (few_taken _ _ f c.args.table.now c.requires.1, omega (arith, s, c.requires.2))

pub returns-in-Err : goal.returns-in-Err
unfolding sheet_bytes_call
returns-in-Err c =
    let u = c.put_refusal in
    let w = u.ensures in record {
      by_index = λ rest e.
          let f = is_refused _ _ _ _ _ (c.take_recording.ensures rest e) _ c.in-Err.is in
          let b = c.args.input.bytes.now ++ rest in
          let q = put_as w.0 (written_refused c.args.input.head b _ f.number_is f.some_number) in
          ap (λ (x : List ℤ). recording_printed u.result u.new.out x c.args.table.now) f.samples_stay
          ∙ printed_refused c.args.input.head b _ c.args.out.now c.args.samples.now c.args.table.now (put_count q) (put_over q (omega (arith, w.1, c.requires.2))) _ f.number_is f.some_number;
      upper_bound = omega (arith, w.1);
    }

pub returns-in-Ok : goal.returns-in-Ok
unfolding sheet_bytes_call
returns-in-Ok c =
    let w = c.put_track.ensures in
    let out = c.args.out.now in
    let t = any_taken _ _ _ _ _ _ _ c.take_recording.ensures c.in-Ok.is in record {
      by_index = λ rest e.
          let f = is_taken _ _ _ _ _ (c.take_recording.ensures rest e) _ c.in-Ok.is in
          let b = c.args.input.bytes.now ++ rest in
          let k = ap₂ paper_sheet f.settings_are f.front ∙ written_sheet c.args.input.head b f.no_refusal in
          printed_taken c.args.input.head b _ out _ _ (w.0 ∙ ap length k) (w.1 ∙ ap (λ (l : List ℕ). overwritten l out) k) f.no_refusal f.samples_are
          (w.2 ∙ (λ i. paper_table (f.settings_are i) c.args.table.now (f.front i)));
      upper_bound = omega (arith, w.0, small _ _ _ _ _ _ t c.take_recording.auto.samples c.requires.0);
    }
