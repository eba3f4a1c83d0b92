-- `track_text::track_text` meets its contract.
use Rattle.std.proofs.Common.{sym, ap, ap₂, ◌∙◌, List, ◌++◌, arith, ℤ, length-take-le}
use Rattle.pitch_recording.specs.Recording.{recording_printed}
use Rattle.pitch_recording.specs.RecordingLaws.{is_taken, is_refused, any_taken, taken_room, printed_refused, printed_taken}
use Rattle.pitch_text.specs.TextLaws.{put_as, put_count, put_over}
use Rattle.track_paper.specs.Paper.{paper_table}
use Rattle.track_text.specs.Program.{track_report, track_text_call}
use Rattle.track_text.specs.ProgramLaws.{text_refused, text_report}
use Rattle.track_text.proofs.track_text.Goals as goal

pub slice_bounds-recorded-end : goal.slice_bounds-recorded-end
slice_bounds-recorded-end c =
    let t = any_taken _ _ _ _ _ _ _ c.take_recording.ensures c.in-Ok.is in
    taken_room _ _ _ _ _ _ t c.take_recording.auto.samples c.requires.0

pub slice_bounds-recorded-end-in-Ok : goal.slice_bounds-recorded-end-in-Ok
slice_bounds-recorded-end-in-Ok c =
    let t = any_taken _ _ _ _ _ _ _ c.take_recording.ensures c.in-Ok.is in
    sym (length-take-le _ _ (taken_room _ _ _ _ _ _ t c.take_recording.auto.samples c.requires.0))

pub invariant_of-recorded : goal.invariant_of-recorded
invariant_of-recorded c =
    let t = any_taken _ _ _ _ _ _ _ c.take_recording.ensures c.in-Ok.is in
    let r = taken_room _ _ _ _ _ _ t c.take_recording.auto.samples c.requires.0 in
    record { accepted = t.accepted; few = rw (length-take-le _ _ r) t.few }

pub returns-in-Err : goal.returns-in-Err
unfolding track_text_call
returns-in-Err c =
    let w = c.put_refusal.ensures in record {
      by_index = λ rest e.
          let f = is_refused _ _ _ _ _ (c.take_recording.ensures rest e) _ c.in-Err.is in
          let b = c.args.input.bytes.now ++ rest in
          let q = put_as w.0 (text_refused c.args.input.head b _ f.number_is f.some_number) in
          ap (λ (x : List ℤ). recording_printed c.put_refusal.result c.put_refusal.new.out x c.args.table.now) f.samples_stay
          ∙ printed_refused c.args.input.head b _ c.args.out.now c.args.samples.now c.args.table.now (put_count q) (put_over q (omega (arith, w.1, c.requires.2))) _ f.number_is f.some_number;
      upper_bound = omega (arith, w.1);
    }

pub returns-in-Ok : goal.returns-in-Ok
unfolding track_text_call
returns-in-Ok c =
    let w = c.put_report.ensures in record {
      by_index = λ rest e.
          let f = is_taken _ _ _ _ _ (c.take_recording.ensures rest e) _ c.in-Ok.is in
          let b = c.args.input.bytes.now ++ rest in
          let q = put_as w.0 (ap₂ track_report f.settings_are f.front ∙ text_report c.args.input.head b f.no_refusal) in
          printed_taken c.args.input.head b _ c.args.out.now _ _ (put_count q) (put_over q (omega (arith, w.1, c.requires.2))) f.no_refusal f.samples_are
          (w.2 ∙ (λ i. paper_table (f.settings_are i) c.args.table.now (f.front i)));
      upper_bound = w.1;
    }
