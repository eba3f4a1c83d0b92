-- The invariants of `silk_resampler_down2`.
use Rattle.std.proofs.Common.{◌≤◌, ◌≡◌, length}
use Rattle.lists.specs.Fill.{filled}
use Rattle.lists.specs.Signal.{sample}
use Rattle.silk_resampler.specs.Down2.{even_state, odd_state, halved}
use Rattle.silk_resampler.proofs.silk_resampler_down2.Given as goal

abbrev pub invariant-loop-k : goal.invariant-loop-k
invariant-loop-k l = (l.k ≤ l.len2) × ((length l.out ≡ length l.initial.out) × ((l.s0 ≡ even_state (sample l.s 0) (sample l.input) l.k) × ((l.s1 ≡ odd_state (sample l.s 1) (sample l.input) l.k) × (l.out ≡ filled (halved (sample l.s 0) (sample l.s 1) (sample l.input)) l.k l.initial.out))))
