-- The invariants of `put_lines`.
use Rattle.std.proofs.Common.{◌≡◌, ◌+◌, ◌*◌, ◌≤◌, length}
use Rattle.pitch_table.specs.Row.{row_at}
use Rattle.pitch_text.specs.Text.{Put, lines_text}
use Rattle.pitch_text.proofs.put_lines.Given as goal

abbrev pub invariant-loop-i : goal.invariant-loop-i
invariant-loop-i l =
    (length l.out ≡ length l.initial.out) × (l.p ≤ l.at + 97 * l.i) × Put l.initial.out l.at (lines_text l.nb (row_at l.rows) l.i) l.p l.out
