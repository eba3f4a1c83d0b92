-- Lines of text as bytes: fields of numbers, a row's line, a refusal's (docs/SCOPE.md, Programs). Definitions only.
use Rattle.std.specs.Prelude.{cond, List, [], ◌∷◌, ◌++◌, ℕ, zero, suc, ◌+◌, ◌*◌, ℤ, pos, take}
use Rattle.zint.specs.Equal.{eq_z}
pub use Rattle.lists.specs.Put.{Put}
use Rattle.pitch_table.specs.declared.Row.{Row}
use Rattle.pitch_text.specs.Decimal.{digits, decimal}

-- how many bytes they have at most: the digits of an unsigned number of 32 bits; a field, which is a space and a signed number; a row's letter, seven fields and
-- the end of the line; a frame's number, a space and its row; `refused`, a space, a number and the end of the line
abbrev pub digits_bytes : ℕ
digits_bytes = 10

abbrev pub field_bytes : ℕ
field_bytes = 2 + digits_bytes

abbrev pub row_text_bytes : ℕ
row_text_bytes = 2 + field_bytes * 7

abbrev pub line_bytes : ℕ
line_bytes = digits_bytes + 1 + row_text_bytes

abbrev pub refused_bytes : ℕ
refused_bytes = 9 + digits_bytes

-- each number after a space
unfoldable pub fields : List ℤ → List ℕ
fields [] = []
fields (z ∷ zs) = (32 ∷ decimal z) ++ fields zs

-- V, U or Z for the verdicts 0, 1, 2
unfoldable pub letter_of : ℤ → ℕ
letter_of v = cond (eq_z v (pos 0)) 86 (cond (eq_z v (pos 1)) 85 90)

-- a row's numbers after its verdict
unfoldable pub values_of : Row → List ℤ
values_of r = r.index ∷ r.contour ∷ r.correlation ∷ r.lag0 ∷ r.lag1 ∷ r.lag2 ∷ r.lag3 ∷ []

-- a row as a line: the letter, lag index, contour, correlation, and the lags of nb subframes
unfoldable pub row_text : ℕ → Row → List ℕ
row_text nb r = letter_of r.verdict ∷ (fields (take (3 + nb) (values_of r)) ++ (10 ∷ []))

-- a frame's line: its number, then its row
unfoldable pub line_text : ℕ → ℕ → Row → List ℕ
line_text i nb r = digits i ++ (32 ∷ row_text nb r)

-- the lines of the first k frames
unfoldable pub lines_text : ℕ → (ℕ → Row) → ℕ → List ℕ
lines_text nb rows zero = []
lines_text nb rows (suc k) = lines_text nb rows k ++ line_text k nb (rows k)

-- `refused` and the number
unfoldable pub refused_text : ℕ → List ℕ
refused_text n = 114 ∷ 101 ∷ 102 ∷ 117 ∷ 115 ∷ 101 ∷ 100 ∷ 32 ∷ (digits n ++ (10 ∷ []))
