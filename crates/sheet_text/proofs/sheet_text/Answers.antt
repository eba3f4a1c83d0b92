-- `sheet_text::sheet_text` meets its contract.
use Rattle.std.proofs.Common.{refl, sym, ap, ◌∙◌, List, ◌++◌, ℕ, ◌*◌, ◌≤◌, length, length-take-le, arith}
use Rattle.pitch_table.specs.Row.{row_size, most_frames}
use Rattle.pitch_text.specs.Text.{refused_text}
use Rattle.pitch_text.specs.TextLaws.{put_as, put_count, put_over, rows_taken}
use Rattle.sheet_text.specs.Program.{sheet_text_call}
use Rattle.sheet_text.specs.ProgramLaws.{no_sheet, none_more, text_refused, table_kept, outcome, found, refused, few_frames, text_report, report_taken}
use Rattle.sheet_text.proofs.sheet_text.Goals as goal
use Rattle.sheet_text.proofs.sheet_text.Goals.{In-Ok}

pub returns-then-more : goal.returns-then-more
returns-then-more c =
    let a = c.args in
    let w = c.put_refusal.ensures in
    let m = c.if-more.true in
    record {
      by_index = λ rest e.
          let n = no_sheet a.input.now rest (c.requires.0 m) (e ∙ m) in
          let q = put_as w.0 (text_refused (a.input.now ++ rest) n) in
          outcome (a.input.now ++ rest) a.out.now a.table.now (put_count q) (put_over q (omega (arith, w.1, c.requires.2))) (table_kept (a.input.now ++ rest) a.table.now n);
      upper_bound = omega (arith, w.1);
    }

-- the rows that were read lie in the table
module _ (c : In-Ok) where
  few : c.in-Ok.frames ≤ most_frames
  few = few_frames (found c.args.input.now c.args.table.now c.requires.1 c.in-Ok.ensures.table_after refl)

  within : c.in-Ok.frames * row_size ≤ length c.read_sheet.new.table
  within = omega (arith, few, c.read_sheet.auto.table, c.requires.1)

pub overflow_mul-frames : goal.overflow_mul-frames
overflow_mul-frames c = omega (arith, few (goal.at.overflow_mul-frames c).In-Ok)

pub slice_bounds-put_report-end : goal.slice_bounds-put_report-end
slice_bounds-put_report-end c = within (goal.at.slice_bounds-put_report-end c).In-Ok

pub slice_bounds-put_report-end-in-Ok : goal.slice_bounds-put_report-end-in-Ok
slice_bounds-put_report-end-in-Ok c = sym (length-take-le _ _ (within (goal.at.slice_bounds-put_report-end-in-Ok c).In-Ok))

pub put_report-requires : goal.put_report-requires
put_report-requires c =
    let p = (goal.at.put_report-requires c).In-Ok in
    (omega (arith, few p, rows_taken c.read_sheet.new.table c.in-Ok.frames (within p)), c.requires.2)

pub returns-in-Ok : goal.returns-in-Ok
returns-in-Ok c =
    let a = c.args in
    let w = c.put_report.ensures in
    let f = found a.input.now a.table.now c.requires.1 c.in-Ok.ensures.table_after refl in
    record {
      by_index = λ rest e.
          let q = put_as w.0 (report_taken _ _ _ (within (goal.at.returns-in-Ok c).In-Ok) ∙ text_report f) in
          outcome a.input.now a.out.now a.table.now (put_count q) (put_over q (omega (arith, w.1, c.requires.2))) f.left
          ∙ ap (λ (p : List ℕ). sheet_text_call p a.out.now a.table.now) (sym (none_more a.input.now rest (e ∙ c.if-more.false)));
      upper_bound = w.1;
    }

pub returns-in-Err : goal.returns-in-Err
returns-in-Err c =
    let a = c.args in
    let w = c.put_refusal-in-Err.ensures in
    let f = refused a.input.now a.table.now c.requires.1 c.in-Err.ensures.table_after refl in
    record {
      by_index = λ rest e.
          let q = put_as w.0 (ap refused_text f.nine ∙ text_refused a.input.now f.bad) in
          outcome a.input.now a.out.now a.table.now (put_count q) (put_over q (omega (arith, w.1, c.requires.2))) f.left
          ∙ ap (λ (p : List ℕ). sheet_text_call p a.out.now a.table.now) (sym (none_more a.input.now rest (e ∙ c.if-more.false)));
      upper_bound = omega (arith, w.1);
    }
