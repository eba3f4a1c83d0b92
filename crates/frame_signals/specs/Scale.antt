-- The working frame (docs/SCOPE.md, Stages): the frame xs, or its samples shifted right where its energy is high. Definitions only; the laws are in `ScaleLaws`.
use Rattle.std.specs.Prelude.{cond, List, ℕ, ◌+◌, ◌/◌, ◌^◌, eqb, ℤ, length}
use Rattle.std.specs.Int.Signed.{shr_z}
use Rattle.lists.specs.Fill.{tabulate}
use Rattle.lists.specs.Signal.{sample}
use Rattle.silk_sigproc.specs.SumSqr.{excess, sqr_shift, sqr_energy}

-- by how many bits the samples shift right: half, rounded up, of the kernel's shift + 3 less the energy's leading zeros, where that is positive. `excess` is that shift,
-- and 0 where it is negative; 0 gives 0, which leaves the samples as they are
unfoldable pub down_shift : List ℤ → ℕ
down_shift xs = (excess (sqr_energy xs) (sqr_shift xs) + 1) / 2

-- sample i shifted right by s: divided by 2^s and rounded down
unfoldable pub shifted_at : List ℤ → ℕ → ℕ → ℤ
shifted_at xs s i = shr_z (sample xs i) (2 ^ s)

-- the working frame w
unfoldable pub scaled : List ℤ → List ℤ
scaled xs = tabulate (shifted_at xs (down_shift xs)) (length xs)

-- how many of n samples go to the scratch: all where there is a shift, else none
unfoldable pub moved_count : ℕ → ℕ → ℕ
moved_count s n = cond (eqb s 0) 0 n

-- the working frame: the shifted copy where there is a shift, and else the caller's samples
unfoldable pub holder : ℕ → List ℤ → List ℤ → List ℤ
holder s frame scratch = cond (eqb s 0) frame scratch
