-- The invariants of `scale_into`.
use Rattle.std.proofs.Common.{◌≡◌, ◌≤◌, length}
use Rattle.lists.specs.Fill.{filled}
use Rattle.frame_signals.specs.Scale.{shifted_at, moved_count}
use Rattle.frame_signals.proofs.scale_into.Given as goal

abbrev pub invariant-loop-i : goal.invariant-loop-i
invariant-loop-i l = (l.count ≡ moved_count l.shift (length l.frame)) × ((l.count ≤ length l.frame) × ((l.i ≤ l.count) × ((length l.scratch ≡ length l.initial.scratch) × (l.scratch ≡ filled (shifted_at l.frame l.shift) l.i l.initial.scratch))))
