-- A frame of 16 samples at the loudest, as the Rust scales it: the energy keeps 29 bits at a shift of 6, so the samples shift right by 3.
use Rattle.std.specs.Prelude.{◌≡◌, refl, replicate}
use Rattle.std.specs.Int.Count.{count_leading_zeros}
use Rattle.lists.specs.Fill.{tabulate}
use Rattle.lists.specs.Signal.{sample}
use Rattle.silk_sigproc.specs.SumSqr.{sq, pair, pairs, cut_sum, pair_sum, excess, first_shift, first_sum, sqr_shift, sqr_energy}
use Rattle.frame_signals.specs.Scale.{down_shift, shifted_at, scaled}
use Rattle.zint.specs.Minus.{minus}

loudest : scaled (replicate 16 (minus 32768)) ≡ replicate 16 (minus 4096)
unfolding scaled tabulate shifted_at down_shift excess sqr_energy sqr_shift first_sum first_shift pair_sum cut_sum pairs pair sq sample count_leading_zeros
loudest = refl
