-- What `pitch_threshold` answers and leaves in the lent place: the threshold call's answer in numbers. Definitions only.
use Rattle.std.specs.Prelude.{Result, Ok, Err, ℕ, ℤ}
use Rattle.speech_threshold.specs.Threshold.{threshold_call}

-- the number that is returned, and the lent number at exit
pub record ThresholdExported : Type 0 where
  pub number : ℕ
  pub lent : ℤ

abbrev pub threshold_exported : ℕ → ℤ → ThresholdExported
threshold_exported k t = record { number = k; lent = t }

-- a threshold is 0 and is written; a refusal is its number and leaves what was there
abbrev pub export_threshold : Result ℤ ℕ → ℤ → ThresholdExported
export_threshold (Ok t) old = threshold_exported 0 t
export_threshold (Err k) old = threshold_exported k old

unfoldable pub export_threshold_call : ℤ → ℤ → ℤ → ℤ → ℤ → ThresholdExported
export_threshold_call order activity type tilt old = export_threshold (threshold_call order activity type tilt) old
