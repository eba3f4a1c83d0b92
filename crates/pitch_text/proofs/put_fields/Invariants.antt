-- The invariants of `put_fields`.
use Rattle.std.proofs.Common.{◌≡◌, ◌+◌, ◌*◌, ◌≤◌, length, take}
use Rattle.pitch_text.specs.Text.{Put, field_bytes, fields}
use Rattle.pitch_text.proofs.put_fields.Given as goal

abbrev pub invariant-loop-value : goal.invariant-loop-value
invariant-loop-value l =
    (l.value-index ≤ length l.values) × (length l.out ≡ length l.initial.out) × (l.end ≤ l.at + field_bytes * l.value-index) × Put l.initial.out l.at (fields (take l.value-index l.values)) l.end l.out
