-- The contours below i are filled.
use Rattle.std.proofs.Common.{◌≡◌, List, ℕ, ◌+◌, ℤ, pos, nat_abs, ◌-ℤ◌, get_or, replicate}
use Rattle.lists.specs.Fill.{tabulate, filled}
use Rattle.stage3_arrays.proofs.spread.Given as goal

-- contour j's five places
abbrev pub five_of : List ℤ → List ℤ → ℤ → ℕ → List ℤ
five_of mem offsets low j = tabulate (λ (m : ℕ). get_or mem (nat_abs (get_or offsets j (pos 0) -ℤ low) + m) (pos 0)) 5

abbrev pub invariant-loop-i : goal.invariant-loop-i
invariant-loop-i l = l.by_lag ≡ filled (five_of l.scratch_mem l.offsets l.low) l.i (replicate 34 (replicate 5 (pos 0)))
