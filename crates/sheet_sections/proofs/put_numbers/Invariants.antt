-- The invariants of `put_numbers`.
use Rattle.std.proofs.Common.{◌≡◌, ◌+◌, ◌*◌, ◌≤◌, length}
use Rattle.lists.specs.Put.{Put}
use Rattle.sheet_sections.specs.Sheet.{setting_bytes}
use Rattle.sheet_sections.specs.SheetLaws.{signed_first}
use Rattle.sheet_sections.proofs.put_numbers.Given as goal

abbrev pub invariant-loop-number : goal.invariant-loop-number
invariant-loop-number l =
    (l.number-index ≤ length l.numbers) × (length l.page ≡ length l.initial.page) × (l.end ≡ l.at + setting_bytes * l.number-index) × Put l.initial.page l.at (signed_first l.numbers l.number-index) l.end l.page
