-- The invariants of `EnergiesMeasure::along`.
use Rattle.std.proofs.Common.{◌≡◌, ◌-◌, ◌≤◌, pos, replicate}
use Rattle.lists.specs.Fill.{filled}
use Rattle.stage3_arrays.specs.Arrays.{running}
use Rattle.stage3_arrays.proofs.EnergiesMeasure.along.Given as goal

abbrev pub invariant-loop-i : goal.invariant-loop-i
invariant-loop-i l = (1 ≤ l.i) × ((l.i ≤ l.count) × ((l.energy ≡ running l.frame l.basis l.len (l.i - 1)) × (l.scratch_mem ≡ filled (running l.frame l.basis l.len) l.i (replicate 22 (pos 0)))))
