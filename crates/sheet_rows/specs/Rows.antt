-- Rows that a sheet can hold (docs/SCOPE.md, Track and Sheet). fs is the rate in kHz. Definitions only; the laws are in `RowsLaws`.
use Rattle.std.specs.Prelude.{◌≡◌, Bool, false, ◌&&◌, ◌||◌, cond, List, [], ◌∷◌, ℕ, ◌≤◌, ℤ, pos, nat_abs, Option, Some, None}
use Rattle.zint.specs.Equal.{eq_z}
use Rattle.silk_tables.specs.Rebuild.{carried}
use Rattle.pitch_settings.specs.declared.Settings.{Settings}
use Rattle.pitch_table.specs.declared.Row.{Row}
use Rattle.pitch_table.specs.Row.{numbers, voiced_row, unpitched_row}

-- the row that a verdict, a pair and a correlation stand for. Verdict 0 is voiced: the lag index is at most 127, 192, 256 at 8, 12, 16 kHz and the contour one in use, any
-- correlation; 1 is unvoiced and 2 a zero divisor; there is no other
unfoldable pub row_of : Settings → ℤ → ℤ → ℤ → ℤ → Option Row
row_of s verdict index contour correlation =
    cond (eq_z verdict (pos 0))
    (cond (carried s.rate s.nb s.complexity index contour) (Some (voiced_row s index contour correlation)) None)
    (cond (eq_z verdict (pos 1) || eq_z verdict (pos 2)) (Some (unpitched_row verdict)) None)

-- the same answer in numbers: 0 and the row's eight numbers where they stand for a row, 9 (malformed) where they stand for none
unfoldable pub row_read_numbers : Option Row → List ℤ
row_read_numbers (Some r) = pos 0 ∷ numbers r
row_read_numbers None = pos 9 ∷ []

-- 0 where a verdict and a pair stand for a row, else 9
unfoldable pub row_no : Settings → ℤ → ℤ → ℤ → ℕ
row_no s verdict index contour =
    cond (eq_z verdict (pos 0)) (cond (carried s.rate s.nb s.complexity index contour) 0 9) (cond (eq_z verdict (pos 1) || eq_z verdict (pos 2)) 0 9)

-- the eight numbers of the row that they stand for
unfoldable pub row_values : Settings → ℤ → ℤ → ℤ → ℤ → List ℤ
row_values s verdict index contour correlation = numbers (cond (eq_z verdict (pos 0)) (voiced_row s index contour correlation) (unpitched_row verdict))

-- two rows are the same number for number
unfoldable pub same_row : Row → Row → Bool
same_row a b =
    eq_z a.verdict b.verdict && (eq_z a.index b.index && (eq_z a.contour b.contour && (eq_z a.correlation b.correlation
    && (eq_z a.lag0 b.lag0 && (eq_z a.lag1 b.lag1 && (eq_z a.lag2 b.lag2 && eq_z a.lag3 b.lag3))))))

abbrev pub same_as : Row → Option Row → Bool
same_as r (Some q) = same_row r q
same_as r None = false

-- a row is one that a sheet can hold where its own verdict, pair and correlation stand for it
unfoldable pub row_holds : Settings → Row → Bool
row_holds s r = same_as r (row_of s r.verdict r.index r.contour r.correlation)

-- the numbers that a sheet writes in few bytes are not negative and fit: a verdict up to 2, an index up to 256, a contour of one byte
pub record FieldsFit (r : Row) : Type 0 where
  pub verdict : r.verdict ≡ pos (nat_abs r.verdict)
  pub verdict_le : nat_abs r.verdict ≤ 2
  pub index : r.index ≡ pos (nat_abs r.index)
  pub index_le : nat_abs r.index ≤ 256
  pub contour : r.contour ≡ pos (nat_abs r.contour)
  pub contour_le : nat_abs r.contour ≤ 255
