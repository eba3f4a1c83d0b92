-- The working frame w at 8 kHz and at 4 kHz, which stages 2 and 1 read (pitch_analysis.rs, from the first decimator to the two-tap sum). Definitions only; the laws are
-- in `SignalLaws`.
use Rattle.std.specs.Prelude.{cond, List, ℕ, zero, suc, eqb, ℤ, ◌+ℤ◌, length}
use Rattle.std.specs.Int.{w16}
use Rattle.zint.specs.Clamp.{sat}
use Rattle.lists.specs.Fill.{tabulate}
use Rattle.lists.specs.Signal.{sample}
use Rattle.silk_resampler.specs.Down2.{down2}
use Rattle.silk_resampler.specs.Down23.{FilterNumbers, down2_3}

-- e, of the 12 kHz filter's numbers F, the rate fs and w: half the rate of 16 kHz, two thirds of 12 kHz, and w itself at 8 kHz
unfoldable pub down_to_8khz : FilterNumbers → ℕ → List ℤ → List ℤ
down_to_8khz F fs w = cond (eqb fs 16) (down2 w) (cond (eqb fs 12) (down2_3 F w) w)

-- each sample with the one before it, held within 16 bits; the first alone
unfoldable pub two_tap : (ℕ → ℤ) → ℕ → ℤ
two_tap g zero = g 0
two_tap g (suc i) = sat w16 (g (suc i) +ℤ g i)

-- f, of e: half the rate, then the two-tap sum
unfoldable pub down_to_4khz : List ℤ → List ℤ
down_to_4khz e = tabulate (two_tap (sample (down2 e))) (length (down2 e))
