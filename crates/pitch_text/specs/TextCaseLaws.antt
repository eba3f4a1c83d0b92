-- Cases of the definitions, by computation: numbers in decimal, and the line of one row.
use Rattle.std.specs.Prelude.{◌≡◌, refl, [], ◌∷◌, map, pos}
use Rattle.std.proofs.Common.{lit<}
use Rattle.zint.specs.Equal.{eq_z}
use Rattle.pitch_table.specs.declared.Row.{Row}
use Rattle.pitch_text.specs.Decimal.{digits_to, digits, decimal}
use Rattle.pitch_text.specs.DecimalLaws.{digits_short}
use Rattle.pitch_text.specs.Text.{fields, letter_of, values_of, row_text, line_text, refused_text}
use Rattle.zint.specs.Minus.{minus}

-- 0, −32768, 2147483647 and −2147483648
pub decimal_cases :
    map decimal (pos 0 ∷ minus 32768 ∷ pos 2147483647 ∷ minus 2147483648 ∷ [])
    ≡ (48 ∷ [])
    ∷ (45 ∷ 51 ∷ 50 ∷ 55 ∷ 54 ∷ 56 ∷ [])
    ∷ (50 ∷ 49 ∷ 52 ∷ 55 ∷ 52 ∷ 56 ∷ 51 ∷ 54 ∷ 52 ∷ 55 ∷ [])
    ∷ (45 ∷ 50 ∷ 49 ∷ 52 ∷ 55 ∷ 52 ∷ 56 ∷ 51 ∷ 54 ∷ 52 ∷ 56 ∷ [])
    ∷ []
unfolding decimal digits_to
decimal_cases =
    simp (digits_short 9 0 (lit< tt), digits_short 9 32768 (lit< tt), digits_short 9 2147483647 (lit< tt), digits_short 9 2147483648 (lit< tt))

-- an unvoiced row
abbrev unvoiced : Row
unvoiced = record { verdict = pos 1; index = pos 0; contour = pos 0; correlation = pos 0; lag0 = pos 0; lag1 = pos 0; lag2 = pos 0; lag3 = pos 0 }

-- `0 U 0 0 0 0 0`
pub line_case : line_text 0 2 unvoiced ≡ 48 ∷ 32 ∷ 85 ∷ 32 ∷ 48 ∷ 32 ∷ 48 ∷ 32 ∷ 48 ∷ 32 ∷ 48 ∷ 32 ∷ 48 ∷ 10 ∷ []
unfolding line_text row_text fields letter_of values_of decimal digits digits_to eq_z
line_case = refl

-- `refused 10`
pub refused_case : refused_text 10 ≡ 114 ∷ 101 ∷ 102 ∷ 117 ∷ 115 ∷ 101 ∷ 100 ∷ 32 ∷ 49 ∷ 48 ∷ 10 ∷ []
unfolding refused_text digits digits_to
refused_case = refl
