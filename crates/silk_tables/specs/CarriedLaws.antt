-- What a carried pair says, the test from such facts, and the answer by its tests.
use Rattle.std.specs.Prelude.{Option, Some, None, ◌≡◌, [], ◌∷◌, Bool, ℕ, ◌≤◌, ◌<◌, eqb, ltb, ℤ, pos, nat_abs, ◌<ℤ◌, refl, true, false, ◌&&◌, cond}
use Rattle.std.proofs.Common.{subst, arith, ap₂}
use Rattle.std.specs.Int.Signed.{le_z, lt_z}
use Rattle.answers.specs.Answer.{answer_numbers}
use Rattle.zint.specs.TestLaws.{le_true, lt_true}
use Rattle.zint.specs.OrderLaws.{le_yes, lt_yes}
use Rattle.zint.specs.ShiftLaws.{nonneg_abs}
use Rattle.zint.specs.DiffLaws.{le_of, lt_of, of_lt, zarith}
use Rattle.silk_tables.specs.Tables.{contours, greatest_index}
use Rattle.silk_tables.specs.Rebuild.{rebuilt, Coded, carried, CarriedPair, rebuildable, rebuild_call, rebuilt_numbers, rebuilt_number}
use Rattle.zint.specs.BoolLaws.{and_left, and_right}
use Rattle.pitch_settings.specs.declared.Settings.{Settings}
use Rattle.pitch_settings.specs.Settings.{settings_refusal, complexity_held, held_no}
use Rattle.pitch_settings.specs.SettingsLaws.{held_settings}
use Rattle.silk_tables.specs.ContourLaws.{greatest_le, contours_le}

-- ---- a carried pair

module _ {fs nb cx : ℕ} {index contour : ℤ} where
  pub carried_means : carried fs nb cx index contour ≡ true → CarriedPair fs nb cx index contour
  unfolding carried
  carried_means e =
      let i_test = le_z (pos 0) index && le_z index (pos (greatest_index fs)) in
      let three = and_left (i_test && le_z (pos 0) contour) (lt_z contour (pos (contours fs nb cx))) e in
      let two = and_left i_test (le_z (pos 0) contour) three in
      record {
        index_ge = le_true (pos 0) index (and_left (le_z (pos 0) index) (le_z index (pos (greatest_index fs))) two);
        index_le = le_true index (pos (greatest_index fs)) (and_right (le_z (pos 0) index) (le_z index (pos (greatest_index fs))) two);
        contour_ge = le_true (pos 0) contour (and_right i_test (le_z (pos 0) contour) three);
        contour_lt = lt_true contour (pos (contours fs nb cx)) (and_right (i_test && le_z (pos 0) contour) (lt_z contour (pos (contours fs nb cx))) e);
      }

  pub carried_yes : CarriedPair fs nb cx index contour → carried fs nb cx index contour ≡ true
  unfolding carried
  carried_yes p = ap₂ ◌&&◌ (ap₂ ◌&&◌ (ap₂ ◌&&◌ (le_yes p.index_ge) (le_yes p.index_le)) (le_yes p.contour_ge)) (lt_yes p.contour_lt)

  -- its contour as a number, and what the lag of a subframe asks
  pub contour_abs : CarriedPair fs nb cx index contour → contour ≡ pos (nat_abs contour)
  contour_abs p = nonneg_abs contour p.contour_ge

  contour_in : CarriedPair fs nb cx index contour → nat_abs contour < contours fs nb cx
  contour_in p = let h = of_lt (subst (λ (z : ℤ). z <ℤ pos (contours fs nb cx)) (contour_abs p) p.contour_lt) in omega arith

pub coded : (s : Settings) {index contour : ℤ} → held_no s ≡ 0 → CarriedPair s.rate s.nb s.complexity index contour → (k : ℕ) → k < s.nb → Coded s.rate s.nb index (nat_abs contour) k
coded s {index} {contour} e p k h =
    let a = held_settings s e in
    let i = p.index_le in
    let g = greatest_le s.rate in
    let m = contour_in p in
    let l = contours_le s.rate s.nb s.complexity in
    record {
      rate_ge = a.rate_low;
      rate_le = a.rate_high;
      subframes = a.subframes;
      index_ge = p.index_ge;
      index_le = le_of index (pos 256) (omega zarith);
      entry = omega arith;
      subframe = h;
    }

-- a pair of numbers that are not negative
pub carried_pair : {fs nb cx i j : ℕ} → i ≤ greatest_index fs → j < contours fs nb cx → CarriedPair fs nb cx (pos i) (pos j)
carried_pair {fs} {nb} {cx} {i} {j} h l = record {
  index_ge = le_of (pos 0) (pos i) (omega arith);
  index_le = le_of (pos i) (pos (greatest_index fs)) (omega arith);
  contour_ge = le_of (pos 0) (pos j) (omega arith);
  contour_lt = lt_of (pos j) (pos (contours fs nb cx)) (omega arith);
}

-- ---- the answer by its tests

module _ (fs nb cx : ℕ) (index contour : ℤ) (k : ℕ) where
  abbrev lag : Option ℤ
  lag = Some (rebuilt fs nb index (nat_abs contour) k)

  pub answer_by : {a b c : Bool} → eqb (settings_refusal fs nb (complexity_held cx)) 0 ≡ a → ltb k nb ≡ b → carried fs nb cx index contour ≡ c → rebuild_call fs nb cx index contour k ≡ cond (a && b && c) lag None
  unfolding rebuild_call
  answer_by p q r = λ i. cond (p i && q i && r i) lag None

  -- the answer in numbers
  pub rebuilt_in_numbers : rebuilt_numbers (rebuild_call fs nb cx index contour k) ≡ answer_numbers (rebuilt_number fs nb cx index contour k) (rebuilt fs nb index (nat_abs contour) k ∷ [])
  unfolding rebuild_call rebuilt_number
  rebuilt_in_numbers = by (rebuildable fs nb cx index contour k)
    where
      by : (t : Bool) → rebuilt_numbers (cond t lag None) ≡ answer_numbers (cond t 0 9) (rebuilt fs nb index (nat_abs contour) k ∷ [])
      by true = refl
      by false = refl
