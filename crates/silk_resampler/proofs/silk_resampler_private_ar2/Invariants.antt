-- The invariants of `silk_resampler_private_ar2`.
use Rattle.std.proofs.Common.{◌≤◌, ◌≡◌, length}
use Rattle.lists.specs.Fill.{filled}
use Rattle.lists.specs.Signal.{sample}
use Rattle.silk_resampler.specs.Down23.{filter_numbers, ar2_states, filtered, states_of}
use Rattle.silk_resampler.proofs.silk_resampler_private_ar2.Given as goal

abbrev pub invariant-loop-k : goal.invariant-loop-k
invariant-loop-k l = (l.k ≤ l.len) × ((length l.out_q8 ≡ length l.initial.out_q8) × ((l.s0 ≡ (ar2_states (filter_numbers l.filter) (sample l.a_q14 0) (sample l.a_q14 1) (states_of l.s) (sample l.input) l.k).first) × ((l.s1 ≡ (ar2_states (filter_numbers l.filter) (sample l.a_q14 0) (sample l.a_q14 1) (states_of l.s) (sample l.input) l.k).second) × (l.out_q8 ≡ filled (filtered (filter_numbers l.filter) (sample l.a_q14 0) (sample l.a_q14 1) (states_of l.s) (sample l.input)) l.k l.initial.out_q8))))
