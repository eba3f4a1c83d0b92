-- Laws of the counts: one tally more of the sums, which go round; settings are found the same exactly where they are equal.
use Rattle.std.specs.Prelude.{◌≡◌, ℕ, ◌+◌, ◌%◌, ◌^◌, Bool, true, false, FitsSigned, List, [], ◌++◌, ◌∷◌, ℤ, ◌==◌, refl, sum_by}
use Rattle.std.proofs.Common.{sym, ap, ap₂, ◌∙◌, eqb-true, eq-eqb, to_z, of_z}
use Rattle.std.proofs.Math.Nat.{mod-add-mod}
use Rattle.std.proofs.lemmas.Bool.{eqb-false}
use Rattle.std.proofs.lemmas.List.Sums.{sum_by_push}
use Rattle.std.proofs.lemmas.Bool.Decides.{Decides-int_eq}
use Rattle.std.specs.Int.{w32}
use Rattle.std.specs.Ordering.{int_eq}
use Rattle.zint.specs.BoolLaws.{and_left, and_right}
use Rattle.zint.specs.Equal.{eq_z}
use Rattle.zint.specs.EqualLaws.{eq_z_yes, eq_z_no}
use Rattle.zint.specs.ReadLaws.{r_var}
use Rattle.pitch_settings.specs.declared.Settings.{Settings}
use Rattle.cases_io.specs.declared.Tally.{Tally}
use Rattle.cases_io.specs.Counts.{same_settings, tally, tally_plus, totals_of}

-- ---- sums
pub totals_none : totals_of [] ≡ tally 0 0
unfolding totals_of
totals_none = refl

-- one tally more, added to sums that went round
pub totals_next : (ts : List Tally) (t : Tally) → tally_plus (totals_of ts) t ≡ totals_of (ts ++ t ∷ [])
unfolding totals_of tally_plus
totals_next ts t = ap₂ tally (turn (λ (u : Tally). u.agreed)) (turn (λ (u : Tally). u.total))
  where
    turn : (n : Tally → ℕ) → (sum_by n ts % 2 ^ 64 + n t) % 2 ^ 64 ≡ sum_by n (ts ++ t ∷ []) % 2 ^ 64
    turn n = mod-add-mod (sum_by n ts) (2 ^ 64) (n t) ∙ ap (λ (s : ℕ). s % 2 ^ 64) (sym (sum_by_push n ts t))

-- ---- settings
-- two numbers whose bits are compared
pub bits_eqb : {a b : ℤ} → FitsSigned w32 a → FitsSigned w32 b → (of_z w32 a == of_z w32 b) ≡ eq_z a b
bits_eqb {a} {b} f g = by (of_z w32 a == of_z w32 b) refl
  where
    by : (t : Bool) → (of_z w32 a == of_z w32 b) ≡ t → t ≡ eq_z a b
    by true e = sym (eq_z_yes (sym (r_var f).val ∙ ap (to_z w32) (eqb-true (of_z w32 a) (of_z w32 b) e) ∙ (r_var g).val))
    by false e = sym (eq_z_no (λ h. eqb-false (of_z w32 a) (of_z w32 b) e (ap (of_z w32) h)))

-- equal settings are found the same
pub same_yes : (s : Settings) → same_settings s s ≡ true
unfolding same_settings
same_yes s =
    rw (eq-eqb s.rate s.rate refl, eq-eqb s.nb s.nb refl, eq-eqb s.complexity s.complexity refl, signed_yes s.thres1, signed_yes s.thres2) refl
  where
    signed_yes : (z : ℤ) → int_eq z z ≡ true
    signed_yes z = (Decides-int_eq z z).1 refl

-- settings that are found the same are equal
pub same_true : (a b : Settings) → same_settings a b ≡ true → a ≡ b
unfolding same_settings
same_true a b e =
    let rate = eqb-true a.rate b.rate (and_left (a.rate == b.rate) _ e) in
    let four = and_right (a.rate == b.rate) _ e in
    let nb = eqb-true a.nb b.nb (and_left (a.nb == b.nb) _ four) in
    let three = and_right (a.nb == b.nb) _ four in
    let complexity = eqb-true a.complexity b.complexity (and_left (a.complexity == b.complexity) _ three) in
    let two = and_right (a.complexity == b.complexity) _ three in
    let thres1 = signed_true a.thres1 b.thres1 (and_left (int_eq a.thres1 b.thres1) _ two) in
    let thres2 = signed_true a.thres2 b.thres2 (and_right (int_eq a.thres1 b.thres1) _ two) in
    rw (rate, nb, complexity, thres1, thres2)
  where
    signed_true : (y z : ℤ) → int_eq y z ≡ true → y ≡ z
    signed_true y z = (Decides-int_eq y z).0
