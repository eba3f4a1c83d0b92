-- The sums so far, and the sample before the next one: 0 before the first.
use Rattle.std.proofs.Common.{◌≡◌, ℕ, zero, suc, length, ℤ, pos}
use Rattle.lists.specs.Fill.{filled}
use Rattle.lists.specs.Signal.{sample}
use Rattle.frame_signals.specs.Signals.{two_tap}
use Rattle.frame_signals.proofs.two_tap_sum.Given as goal

abbrev pub sample_before : (ℕ → ℤ) → ℕ → ℤ
sample_before g zero = pos 0
sample_before g (suc i) = g i

abbrev pub invariant-loop-place : goal.invariant-loop-place
invariant-loop-place l = (length l.x ≡ length l.initial.x) × ((l.x ≡ filled (two_tap (sample l.initial.x)) l.place-index l.initial.x) × (l.before ≡ sample_before (sample l.initial.x) l.place-index))
