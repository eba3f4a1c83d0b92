-- Laws of the rows that a sheet can hold: the definitions by their tests, and what is known of such a row.
use Rattle.std.specs.Prelude.{Bool, ◌||◌, cond, ◌⊎◌, ℕ, ◌≤◌, ℤ, ◌≤ℤ◌, Option, Some, None, ◌≡◌, refl, true, false, pos, nat_abs}
use Rattle.std.proofs.Common.{◌∙◌, inl, inr, ⊎_elim, arith, sym, ap}
use Rattle.std.proofs.lemmas.Bool.{false≢true}
use Rattle.std.proofs.lemmas.Int.{ints}
use Rattle.answers.specs.Answer.{answer_numbers}
use Rattle.zint.specs.BoundLaws.{abs_ud}
use Rattle.zint.specs.DiffLaws.{of_le, of_lt, nonneg_dn, zarith}
use Rattle.zint.specs.ShiftLaws.{nonneg_abs}
use Rattle.zint.specs.Equal.{eq_z}
use Rattle.zint.specs.EqualLaws.{eq_z_yes, eq_z_no, eq_z_true}
use Rattle.silk_tables.specs.Rebuild.{carried}
use Rattle.zint.specs.BoolLaws.{and_left, and_right}
use Rattle.silk_tables.specs.ContourLaws.{greatest_le, contours_le_34}
use Rattle.silk_tables.specs.CarriedLaws.{carried_means}
use Rattle.pitch_settings.specs.declared.Settings.{Settings}
use Rattle.pitch_table.specs.declared.Row.{Row}
use Rattle.pitch_table.specs.Row.{numbers, voiced_row, unpitched_row}
use Rattle.sheet_rows.specs.Rows.{FieldsFit, row_of, row_read_numbers, row_no, row_values, same_row, same_as, row_holds}

-- ---- the definitions by their tests

module _ (s : Settings) (index contour correlation : ℤ) where
  pub row_voiced : {verdict : ℤ} → verdict ≡ pos 0 → carried s.rate s.nb s.complexity index contour ≡ true → row_of s verdict index contour correlation ≡ Some (voiced_row s index contour correlation)
  unfolding row_of
  row_voiced e h = rw (eq_z_yes e, h)

  pub row_not_carried : {verdict : ℤ} → verdict ≡ pos 0 → carried s.rate s.nb s.complexity index contour ≡ false → row_of s verdict index contour correlation ≡ None
  unfolding row_of
  row_not_carried e h = rw (eq_z_yes e, h)

  pub row_unvoiced : {verdict : ℤ} → verdict ≡ pos 1 → row_of s verdict index contour correlation ≡ Some (unpitched_row verdict)
  unfolding row_of eq_z
  row_unvoiced e = rw e

  pub row_zero_divisor : {verdict : ℤ} → verdict ≡ pos 2 → row_of s verdict index contour correlation ≡ Some (unpitched_row verdict)
  unfolding row_of eq_z
  row_zero_divisor e = rw e

  -- a verdict that is 1 or 2, told by its order
  pub row_unpitched : {verdict : ℤ} → pos 1 ≤ℤ verdict → verdict ≤ℤ pos 2 → row_of s verdict index contour correlation ≡ Some (unpitched_row verdict)
  row_unpitched {verdict} h k =
      ⊎_elim row_unvoiced row_zero_divisor (grind (arith, ints))

  pub row_none : {verdict : ℤ} → (verdict ≡ pos 0 → ⊥) → (verdict ≡ pos 1 → ⊥) → (verdict ≡ pos 2 → ⊥) → row_of s verdict index contour correlation ≡ None
  unfolding row_of
  row_none f g h = rw (eq_z_no f, eq_z_no g, eq_z_no h)

-- ---- the answer in numbers

module _ (s : Settings) (verdict index contour correlation : ℤ) {r : Option Row} where
  pub row_answer : r ≡ row_of s verdict index contour correlation → (r ≡ row_of s verdict index contour correlation) × (row_read_numbers r ≡ answer_numbers (row_no s verdict index contour) (row_values s verdict index contour correlation))
  unfolding row_of row_read_numbers row_no row_values
  row_answer e = (e, ap row_read_numbers e ∙ by (eq_z verdict (pos 0)) (carried s.rate s.nb s.complexity index contour) (eq_z verdict (pos 1) || eq_z verdict (pos 2)))
    where
      by : (a b c : Bool)
          → row_read_numbers (cond a (cond b (Some (voiced_row s index contour correlation)) None) (cond c (Some (unpitched_row verdict)) None))
          ≡ answer_numbers (cond a (cond b 0 9) (cond c 0 9)) (numbers (cond a (voiced_row s index contour correlation) (unpitched_row verdict)))
      by true true c = refl
      by true false c = refl
      by false b true = refl
      by false b false = refl

-- ---- rows that are the same

pub same_row_true : (a b : Row) → same_row a b ≡ true → a ≡ b
unfolding same_row
same_row_true a b h =
    let h1 = and_right (eq_z a.verdict b.verdict) _ h in
    let h2 = and_right (eq_z a.index b.index) _ h1 in
    let h3 = and_right (eq_z a.contour b.contour) _ h2 in
    let h4 = and_right (eq_z a.correlation b.correlation) _ h3 in
    let h5 = and_right (eq_z a.lag0 b.lag0) _ h4 in
    let h6 = and_right (eq_z a.lag1 b.lag1) _ h5 in
    λ i. record {
      verdict = eq_z_true a.verdict b.verdict (and_left _ _ h) i;
      index = eq_z_true a.index b.index (and_left _ _ h1) i;
      contour = eq_z_true a.contour b.contour (and_left _ _ h2) i;
      correlation = eq_z_true a.correlation b.correlation (and_left _ _ h3) i;
      lag0 = eq_z_true a.lag0 b.lag0 (and_left _ _ h4) i;
      lag1 = eq_z_true a.lag1 b.lag1 (and_left _ _ h5) i;
      lag2 = eq_z_true a.lag2 b.lag2 (and_left _ _ h6) i;
      lag3 = eq_z_true a.lag3 b.lag3 (and_right (eq_z a.lag2 b.lag2) _ h6) i;
    }

pub same_row_self : (a : Row) → same_row a a ≡ true
unfolding same_row
same_row_self a =
    rw (
      eq_z_yes {z = a.verdict} refl,
      eq_z_yes {z = a.index} refl,
      eq_z_yes {z = a.contour} refl,
      eq_z_yes {z = a.correlation} refl,
      eq_z_yes {z = a.lag0} refl,
      eq_z_yes {z = a.lag1} refl,
      eq_z_yes {z = a.lag2} refl,
      eq_z_yes {z = a.lag3} refl,
    )

-- ---- what numbers that stand for a row say

pub data Stands (s : Settings) (verdict index contour correlation : ℤ) (r : Row) : Type 0 where
  voiced : verdict ≡ pos 0 → carried s.rate s.nb s.complexity index contour ≡ true → r ≡ voiced_row s index contour correlation → Stands s verdict index contour correlation r
  unpitched : (verdict ≡ pos 1) ⊎ (verdict ≡ pos 2) → r ≡ unpitched_row verdict → Stands s verdict index contour correlation r

module _ (s : Settings) (verdict index contour correlation : ℤ) (r : Row) where
  pub stands : row_of s verdict index contour correlation ≡ Some r → Stands s verdict index contour correlation r
  unfolding row_of
  stands h = by (eq_z verdict (pos 0)) (carried s.rate s.nb s.complexity index contour) (eq_z verdict (pos 1)) (eq_z verdict (pos 2)) refl refl refl refl h
    where
      same : {q : Row} → Some q ≡ Some r → r ≡ q
      same e = cc

      none : {A : Type 0} → None ≡ Some r → A
      none e = let z : ◌≡◌ {A = ℕ} 0 1 = cc in absurd (omega arith)

      by : (a b c d : Bool) → eq_z verdict (pos 0) ≡ a → carried s.rate s.nb s.complexity index contour ≡ b → eq_z verdict (pos 1) ≡ c → eq_z verdict (pos 2) ≡ d
          → cond a (cond b (Some (voiced_row s index contour correlation)) None) (cond (c || d) (Some (unpitched_row verdict)) None) ≡ Some r
          → Stands s verdict index contour correlation r
      by true true c d p q u v e = voiced (eq_z_true verdict (pos 0) p) q (same e)
      by true false c d p q u v e = none e
      by false b true d p q u v e = unpitched (inl (eq_z_true verdict (pos 1) u)) (same e)
      by false b false true p q u v e = unpitched (inr (eq_z_true verdict (pos 2) v)) (same e)
      by false b false false p q u v e = none e

  -- the row has the numbers that it was made of: a voiced one all four
  pub stands_verdict : Stands s verdict index contour correlation r → r.verdict ≡ verdict
  unfolding voiced_row unpitched_row
  stands_verdict (voiced e h q) = ap (λ (x : Row). x.verdict) q ∙ sym e
  stands_verdict (unpitched e q) = ap (λ (x : Row). x.verdict) q

  pub stands_pair : Stands s verdict index contour correlation r → verdict ≡ pos 0 → (r.index ≡ index) × (r.contour ≡ contour) × (r.correlation ≡ correlation)
  unfolding voiced_row
  stands_pair (voiced e h q) z = (ap (λ (x : Row). x.index) q, ap (λ (x : Row). x.contour) q, ap (λ (x : Row). x.correlation) q)
  stands_pair (unpitched (inl e) q) z = let c : ◌≡◌ {A = ℕ} 0 1 = ap nat_abs (sym z ∙ e) in absurd (omega arith)
  stands_pair (unpitched (inr e) q) z = let c : ◌≡◌ {A = ℕ} 0 2 = ap nat_abs (sym z ∙ e) in absurd (omega arith)

  -- and those stand for it again
  pub stands_again : Stands s verdict index contour correlation r → row_of s r.verdict r.index r.contour r.correlation ≡ Some r
  unfolding voiced_row unpitched_row
  stands_again (voiced e h q) = rw q (row_voiced s index contour correlation refl h)
  stands_again (unpitched (inl e) q) = rw q (row_unvoiced s (pos 0) (pos 0) (pos 0) e)
  stands_again (unpitched (inr e) q) = rw q (row_zero_divisor s (pos 0) (pos 0) (pos 0) e)

-- ---- a row that a sheet can hold

module _ (s : Settings) (r : Row) where
  pub holds_means : row_holds s r ≡ true → row_of s r.verdict r.index r.contour r.correlation ≡ Some r
  unfolding row_holds
  holds_means h = by (row_of s r.verdict r.index r.contour r.correlation) refl h
    where
      by : (q : Option Row) → row_of s r.verdict r.index r.contour r.correlation ≡ q → same_as r q ≡ true → row_of s r.verdict r.index r.contour r.correlation ≡ Some r
      by (Some q) e k = e ∙ ap Some (sym (same_row_true r q k))
      by None e k = absurd (false≢true k)

  pub holds_yes : row_of s r.verdict r.index r.contour r.correlation ≡ Some r → row_holds s r ≡ true
  unfolding row_holds
  holds_yes e = rw e (same_row_self r)

  pub holds_fit : row_holds s r ≡ true → FieldsFit r
  unfolding unpitched_row
  holds_fit h = by (stands s r.verdict r.index r.contour r.correlation r (holds_means h))
    where
      zeros : (v : ℤ) (n : ℕ) → v ≡ pos n → n ≤ 2 → r ≡ unpitched_row v → FieldsFit r
      zeros v n e l q =
          let a : r.verdict ≡ pos n = ap (λ (x : Row). x.verdict) q ∙ e in
          let i : r.index ≡ pos 0 = ap (λ (x : Row). x.index) q in
          let c : r.contour ≡ pos 0 = ap (λ (x : Row). x.contour) q in
          record {
            verdict = rw a;
            verdict_le = rw a l;
            index = rw i;
            index_le = rw i (omega arith);
            contour = rw c;
            contour_le = rw c (omega arith);
          }

      by : Stands s r.verdict r.index r.contour r.correlation r → FieldsFit r
      by (voiced e k q) =
          let p = carried_means k in
          let g = greatest_le s.rate in
          let n = contours_le_34 s.rate s.nb s.complexity in
          let i = nonneg_abs r.index p.index_ge in
          let c = nonneg_abs r.contour p.contour_ge in
          record {
            verdict = rw e;
            verdict_le = rw e (omega arith);
            index = i;
            index_le = omega (zarith, abs_ud r.index, nonneg_dn p.index_ge, of_le p.index_le);
            contour = c;
            contour_le = omega (zarith, abs_ud r.contour, nonneg_dn p.contour_ge, of_lt p.contour_lt);
          }
      by (unpitched (inl e) q) = zeros r.verdict 1 e (omega arith) q
      by (unpitched (inr e) q) = zeros r.verdict 2 e (omega arith) q
