-- The invariants of `subframe_row`.
use Rattle.std.proofs.Common.{◌≡◌, ◌+◌, ◌-◌, ◌≤◌, pos, ◌+ℤ◌, replicate, w32}
use Rattle.best.specs.Best.{some}
use Rattle.zint.specs.Wrap.{wrap}
use Rattle.lists.specs.Fill.{filled}
use Rattle.silk_sigproc.specs.Dot.{energy_sum}
use Rattle.stage2_correlations.specs.Correlations.{target2 as start_of_lem}
use Rattle.stage2_correlations.specs.Rows.{value_at, zero_at}
use Rattle.stage2_correlations.proofs.subframe_row.Given as goal

abbrev pub invariant-loop-i : goal.invariant-loop-i
invariant-loop-i l =
    (l.i ≤ 132) × ((l.target ≡ start_of_lem l.k) × ((l.energy_target ≡ wrap w32 (wrap w32 (energy_sum l.frame_8khz (start_of_lem l.k) 40) +ℤ pos 1)) × ((l.energy_basis ≡ wrap w32 (energy_sum l.frame_8khz (start_of_lem l.k - (14 + l.i)) 40)) × ((l.c_8khz ≡ filled (value_at l.frame_8khz l.marks l.k) l.i (replicate 132 (pos 0))) × (l.zero ≡ some l.i (zero_at l.frame_8khz l.marks l.k))))))
