-- Marked cases of the threshold call (docs/SCOPE.md, Threshold): a table, and the theorem that each entry is what the definition gives.
use Rattle.std.specs.Prelude.{ℕ, Result, Ok, Err, List, [], ◌∷◌, map, ◌≡◌, refl, ℤ, pos}
use Rattle.zint.specs.Clamp.{clamp, sat}
use Rattle.zint.specs.Minus.{minus}
use Rattle.zint.specs.Wrap.{mod_z, wrap}
use Rattle.silk_macros.specs.Macros.{smulbb, smulwb, smlabb, smlawb}
use Rattle.speech_threshold.specs.Threshold.{less_order, less_activity, less_type, less_tilt, threshold_value, in_range, threshold_no, threshold_call}

-- a call and its answer
pub record ThresholdCase : Type 0 where
  pub order : ℤ
  pub activity : ℤ
  pub type : ℤ
  pub tilt : ℤ
  pub gives : Result ℤ ℕ

abbrev is : ℤ → ℤ → ℤ → ℤ → Result ℤ ℕ → ThresholdCase
is o a s t r = record { order = o; activity = a; type = s; tilt = t; gives = r }

abbrev pub threshold_cases : List ThresholdCase
threshold_cases =
    is (pos 0) (pos 0) (pos 0) (pos 0) (Ok (pos 4915))
    ∷ is (pos 0) (pos 255) (pos 0) (pos 0) (Ok (pos 4099))
    ∷ is (pos 16) (pos 0) (pos 0) (pos 0) (Ok (pos 4387))
    ∷ is (pos 0) (pos 0) (pos 1) (pos 0) (Ok (pos 4915))
    ∷ is (pos 0) (pos 0) (pos 2) (pos 0) (Ok (pos 3686))
    ∷ is (pos 0) (pos 0) (pos 0) (pos 32767) (Ok (pos 4096))
    ∷ is (pos 0) (pos 0) (pos 0) (minus 32768) (Ok (pos 5734))
    ∷ is (pos 16) (pos 255) (pos 2) (pos 32767) (Ok (pos 1523))
    ∷ is (pos 12) (pos 200) (pos 2) (minus 1) (Ok (pos 2650))
    ∷ is (pos 17) (pos 0) (pos 0) (pos 0) (Err 11)
    ∷ is (minus 1) (pos 0) (pos 0) (pos 0) (Err 11)
    ∷ is (pos 0) (pos 256) (pos 0) (pos 0) (Err 11)
    ∷ is (pos 0) (pos 0) (pos 3) (pos 0) (Err 11)
    ∷ is (pos 0) (pos 0) (pos 0) (pos 32768) (Err 11)
    ∷ is (pos 0) (pos 0) (pos 0) (minus 32769) (Err 11)
    ∷ []

pub threshold_cases_hold : map (λ (c : ThresholdCase). threshold_call c.order c.activity c.type c.tilt) threshold_cases ≡ map (λ (c : ThresholdCase). c.gives) threshold_cases
unfolding threshold_call threshold_no in_range threshold_value less_tilt less_type less_activity less_order smlabb smulbb smlawb smulwb wrap mod_z clamp sat
threshold_cases_hold = refl
