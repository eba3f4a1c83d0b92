-- What the private functions of the frame call hand to each other. Definitions only.
use Rattle.std.specs.Prelude.{Result, Ok, Err, ◌≡◌, Bool, true, ℕ, ◌≤◌, ◌<◌, ℤ}
use Rattle.answers.specs.declared.NoPitch.{NoPitch}
use Rattle.answers.specs.declared.NoPitch.TheVariants.{Unvoiced as HasNone, ZeroDivisor as ByZero}
use Rattle.pitch_settings.specs.declared.Settings.{Settings}
use Rattle.silk_tables.specs.Tables.{contours2}
use Rattle.silk_tables.specs.Rebuild.{carried}
use Rattle.silk_pitch_analysis.specs.declared.Verdict.{Verdict}
use Rattle.silk_pitch_analysis.specs.declared.Verdict.TheVariants.{Voiced, Unvoiced, ZeroDivisor}

-- the verdict of a frame without pitch, and that of the stages' answer
abbrev pub verdict_without : NoPitch → Verdict
verdict_without HasNone = Unvoiced
verdict_without ByZero = ZeroDivisor

abbrev pub verdict_from : Result Verdict NoPitch → Verdict
verdict_from (Ok v) = v
verdict_from (Err e) = verdict_without e

-- a winner of stage 2: a lag from 2 ms to less than 18 ms at 8 kHz, with a contour that stage 2 tries
pub record WinnerRange (s : Settings) (lag contour : ℕ) : Type 0 where
  pub low : 16 ≤ lag
  pub high : lag ≤ 143
  pub tried : contour < contours2 s.rate s.nb s.complexity

-- a voiced verdict's pair has an index and a contour of these settings
pub data VerdictCarried (s : Settings) : Verdict → Type 0 where
  voiced : {index contour corr : ℤ} → carried s.rate s.nb s.complexity index contour ≡ true → VerdictCarried s (Voiced index contour corr)
  unvoiced : VerdictCarried s Unvoiced
  zero_divisor : VerdictCarried s ZeroDivisor

-- the same, as a test
abbrev pub pair_carried_in : Settings → Verdict → Bool
pair_carried_in s (Voiced index contour corr) = carried s.rate s.nb s.complexity index contour
pair_carried_in s Unvoiced = true
pair_carried_in s ZeroDivisor = true
