-- The invariants of `decimate`.
use Rattle.std.proofs.Common.{◌≤◌, ◌*◌, ◌≡◌, length}
use Rattle.lists.specs.Fill.{filled}
use Rattle.lists.specs.Signal.{sample}
use Rattle.silk_resampler.specs.Down23.{filter_numbers, decimated}
use Rattle.silk_resampler.proofs.decimate.Given as goal

abbrev pub invariant-loop-m : goal.invariant-loop-m
invariant-loop-m l = (l.m ≤ l.n) × ((length l.out ≡ length l.initial.out) × (l.out ≡ filled (decimated (filter_numbers l.filter) (sample l.buf)) (2 * l.m) l.initial.out))
