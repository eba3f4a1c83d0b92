-- `Sheet::put_section` meets its contract: entry after entry the section grows, and what is left of the page is enough for the rest.
use Rattle.std.proofs.Common.{◌≡◌, ap, arith, length-append, ◌+◌, ◌≤◌, length}
use Rattle.lists.specs.Fill.{tabulate}
use Rattle.lists.specs.Put.{Put}
use Rattle.lists.specs.PutLaws.{put_none, put_then}
use Rattle.pitch_table.specs.Row.{row_at}
use Rattle.sheet_bytes.specs.Bytes.{low_bytes}
use Rattle.sheet_bytes.specs.BytesLaws.{length_bytes}
use Rattle.sheet_rows.specs.RowsLaws.{holds_fit}
use Rattle.sheet_sections.specs.Sheet.{count_bytes, concat, section, row_bytes, section_entries, rows_of}
use Rattle.sheet_sections.specs.SheetLaws.{put_word, rows_bytes_next, rows_bytes_room, length_rows, section_entries_le, rows_bytes}
use Rattle.sheet_sections.proofs.Sheet.put_section.Goals as goal
use Rattle.sheet_sections.proofs.Sheet.put_section.Goals.{Start}

room : (c : Start) → c.args.at + count_bytes + length (rows_bytes c.args.which (rows_of c.args.self.table.now c.args.self.frames)) ≤ length c.args.page.now
unfolding section
room c =
    let es = section_entries c.args.which (rows_of c.args.self.table.now c.args.self.frames) in
    omega (arith, c.requires, length-append (low_bytes count_bytes (length es)) (concat es), length_bytes count_bytes (length es))

pub overflow_cast-entries : goal.overflow_cast-entries
overflow_cast-entries c =
    let s = c.args.self in
    omega (arith, s.few, c.entries.ensures, section_entries_le c.args.which (rows_of s.table.now s.frames), length_rows s.table.now s.frames)

pub put_u32-requires : goal.put_u32-requires
put_u32-requires c = omega (arith, room (goal.at.put_u32-requires c).Start)

pub loop-i-init : goal.loop-i-init
unfolding rows_of tabulate section_entries concat
loop-i-init c = (omega arith, put_none c.put_u32.new.page (c.args.at + count_bytes))

pub put_row-end-requires : goal.put_row-end-requires
put_row-end-requires c =
    let s = c.args.self in
    let e = c.get_row.ensures in (
      rw e (holds_fit s.settings.settings (row_at s.table.now c.loop-i.i) (s.rows c.loop-i.i (omega arith))),
      rw e (omega (arith, rows_bytes_room c.args.which s.table.now c.loop-i.i s.frames (omega arith), room (goal.at.put_row-end-requires c).Start)),
    )

pub loop-i-preserved : goal.loop-i-preserved
loop-i-preserved c =
    let which = c.args.which in
    let t = c.args.self.table.now in
    let i = c.loop-i.i in
    let one : Put c.loop-i.page c.loop-i.end (row_bytes which (row_at t i)) c.put_row-end.result c.put_row-end.new.page =
    rw (ap (row_bytes which) c.get_row.ensures) at c.put_row-end.ensures in
    (omega arith, rw (rows_bytes_next which t i) (put_then c.loop-i.invariant.1 one))

pub returns : goal.returns
unfolding section
returns c =
    let which = c.args.which in
    let s = c.args.self in
    let e : c.loop-i.i ≡ s.frames = omega arith in
    let all : Put c.put_u32.new.page (c.args.at + count_bytes) (rows_bytes which (rows_of s.table.now s.frames)) c.loop-i.end c.loop-i.page = rw e at c.loop-i.invariant.1 in
    put_then (put_word c.put_u32.ensures c.entries.ensures) all
