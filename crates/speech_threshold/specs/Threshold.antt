-- The second threshold from the speech itself, as the encoder finds it before it analyses a frame (docs/SCOPE.md, Threshold): from the order of the whitening filter, the speech activity
-- (Q8), the type of the previous signal (0 none, 1 unvoiced, 2 voiced) and the tilt of the spectrum (Q15). Definitions only.
use Rattle.std.specs.Prelude.{Result, Ok, Err, Bool, ◌&&◌, cond, List, [], ◌∷◌, ℕ, eqb, ℤ, pos, ◌+ℤ◌, ◌*ℤ◌, ◌≤ℤ◌}
use Rattle.std.specs.Int.Signed.{shr_z, le_z}
use Rattle.std.specs.Int.{w16}
use Rattle.zint.specs.Clamp.{sat}
use Rattle.zint.specs.Minus.{minus}
use Rattle.silk_macros.specs.Macros.{smlabb, smlawb, rshift}

-- the steps of `silk_find_pitch_lags_fix`, Q13, each of the four numbers lowering 4915 in turn, and held to 16 bits at the end
unfoldable pub less_order : ℤ → ℤ
less_order order = smlabb (pos 4915) (minus 33) order

unfoldable pub less_activity : ℤ → ℤ → ℤ
less_activity order activity = smlawb (less_order order) (minus 209715) activity

unfoldable pub less_type : ℤ → ℤ → ℤ → ℤ
less_type order activity type = smlabb (less_activity order activity) (minus 1229) (rshift type 1)

unfoldable pub less_tilt : ℤ → ℤ → ℤ → ℤ → ℤ
less_tilt order activity type tilt = smlawb (less_type order activity type) (minus 1638) tilt

unfoldable pub threshold_value : ℤ → ℤ → ℤ → ℤ → ℤ
threshold_value order activity type tilt = sat w16 (less_tilt order activity type tilt)

-- the same as one exact sum: in range it is the threshold, since no step wraps and the last holds nothing back (`ThresholdLaws`)
abbrev pub plain_threshold : ℤ → ℤ → ℤ → ℤ → ℤ
plain_threshold order activity type tilt =
    pos 4915 +ℤ minus 33 *ℤ order +ℤ shr_z (minus 209715 *ℤ activity) 65536 +ℤ minus 1229 *ℤ shr_z type 2 +ℤ shr_z (minus 1638 *ℤ tilt) 65536

-- from low to high
abbrev pub within : ℤ → ℤ → ℤ → Bool
within low high z = le_z low z && le_z z high

-- each of the four numbers is in its range
unfoldable pub in_range : ℤ → ℤ → ℤ → ℤ → Bool
in_range order activity type tilt = within (pos 0) (pos 16) order && within (pos 0) (pos 255) activity && within (pos 0) (pos 2) type && within (minus 32768) (pos 32767) tilt

-- what that says
pub record InRange (order activity type tilt : ℤ) : Type 0 where
  pub order_from : pos 0 ≤ℤ order
  pub order_to : order ≤ℤ pos 16
  pub activity_from : pos 0 ≤ℤ activity
  pub activity_to : activity ≤ℤ pos 255
  pub type_from : pos 0 ≤ℤ type
  pub type_to : type ≤ℤ pos 2
  pub tilt_from : minus 32768 ≤ℤ tilt
  pub tilt_to : tilt ≤ℤ pos 32767

-- the number of the refusal: 11 where one of the four leaves its range, whichever; or 0
unfoldable pub threshold_no : ℤ → ℤ → ℤ → ℤ → ℕ
threshold_no order activity type tilt = cond (in_range order activity type tilt) 0 11

-- what the call says
unfoldable pub threshold_call : ℤ → ℤ → ℤ → ℤ → Result ℤ ℕ
threshold_call order activity type tilt = cond (eqb (threshold_no order activity type tilt) 0) (Ok (threshold_value order activity type tilt)) (Err (threshold_no order activity type tilt))

-- an answer as numbers: a threshold is 0, with its value; a refusal is its number
abbrev pub threshold_answer_numbers : Result ℤ ℕ → List ℤ
threshold_answer_numbers (Ok value) = pos 0 ∷ value ∷ []
threshold_answer_numbers (Err n) = pos n ∷ []
