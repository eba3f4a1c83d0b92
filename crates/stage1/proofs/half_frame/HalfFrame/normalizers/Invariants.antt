-- The invariants of `HalfFrame::normalizers`.
use Rattle.std.proofs.Common.{◌≡◌, ℕ, ◌+◌, ◌-◌, ◌*◌, ◌≤◌, pos, replicate}
use Rattle.lists.specs.Fill.{filled}
use Rattle.stage1.specs.Stage1.{divisor1}
use Rattle.stage1.proofs.half_frame.HalfFrame.normalizers.Given as goal

abbrev pub invariant-loop-i : goal.invariant-loop-i
invariant-loop-i l = (1 ≤ l.i) × ((l.i ≤ 65) × ((l.basis ≡ 72 + 40 * l.self.h) × ((l.normalizer ≡ divisor1 l.self.frame_4khz.now l.self.h (8 + (l.i - 1))) × (l.normalizers ≡ filled (λ (k : ℕ). divisor1 l.self.frame_4khz.now l.self.h (8 + k)) l.i (replicate 65 (pos 0))))))
