-- The invariants of `load_samples`.
use Rattle.std.proofs.Common.{◌≡◌, ℕ, ◌+◌, ◌*◌, length}
use Rattle.lists.specs.Fill.{filled}
use Rattle.pitch_input.specs.Input.{sample_at}
use Rattle.pitch_input.proofs.load_samples.Given as goal

abbrev pub invariant-loop-i : goal.invariant-loop-i
invariant-loop-i l =
    (length l.out ≡ length l.initial.out) × (l.out ≡ filled (λ (k : ℕ). sample_at l.bytes (l.at + 2 * k)) l.i l.initial.out)
