-- The invariants of `quotients`.
use Rattle.std.proofs.Common.{◌≡◌, false, ℕ, ◌≤◌, ◌<◌, pos, replicate}
use Rattle.lists.specs.Fill.{filled}
use Rattle.silk_macros.specs.Divide.{by_zero, low16_of}
use Rattle.stage1.specs.Steps.{quotient_at}
use Rattle.stage1.proofs.half_frame.quotients.Given as goal

abbrev pub invariant-loop-i : goal.invariant-loop-i
invariant-loop-i l =
    (l.i ≤ 65)
    × (((k : ℕ) → k < l.i → by_zero (quotient_at l.xcorr32 l.normalizers k) ≡ false) × (l.c ≡ filled (λ (k : ℕ). low16_of (quotient_at l.xcorr32 l.normalizers k)) l.i (replicate 65 (pos 0))))
