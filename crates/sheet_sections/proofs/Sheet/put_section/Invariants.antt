-- The invariants of `put_section`.
use Rattle.std.proofs.Common.{◌+◌, ◌≤◌}
use Rattle.lists.specs.Put.{Put}
use Rattle.sheet_sections.specs.Sheet.{count_bytes, rows_of}
use Rattle.sheet_sections.specs.SheetLaws.{rows_bytes}
use Rattle.sheet_sections.proofs.Sheet.put_section.Given as goal

abbrev pub invariant-loop-i : goal.invariant-loop-i
invariant-loop-i l = (l.i ≤ l.self.frames) × Put l.initial.page (l.at + count_bytes) (rows_bytes l.which (rows_of l.self.table.now l.i)) l.end l.page
