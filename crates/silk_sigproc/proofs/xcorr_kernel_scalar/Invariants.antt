-- The four sums so far, modulo 2^32.
use Rattle.std.proofs.Common.{◌≡◌}
use Rattle.silk_sigproc.specs.DotLaws.{lag_dot}
use Rattle.silk_sigproc.proofs.xcorr_kernel_scalar.Given as goal

abbrev pub invariant-loop-j : goal.invariant-loop-j
invariant-loop-j l = (l.sum0 ≡ lag_dot l.x l.y l.j 0) × ((l.sum1 ≡ lag_dot l.x l.y l.j 1) × ((l.sum2 ≡ lag_dot l.x l.y l.j 2) × (l.sum3 ≡ lag_dot l.x l.y l.j 3)))
