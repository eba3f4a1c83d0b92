-- A row is eight signed 32-bit numbers (docs/SCOPE.md, Track): verdict (0 voiced, 1 unvoiced, 2 zero divisor), lag index, contour index, correlation, four lags. Row i of a table
-- takes the `row_size` numbers from i × `row_size` on. Definitions only; the laws are in `RowLaws`.
use Rattle.std.specs.Prelude.{cond, List, [], ◌∷◌, ℕ, ◌+◌, ◌*◌, ltb, ℤ, pos, nat_abs, get_or}
use Rattle.pitch_settings.specs.declared.Settings.{Settings}
use Rattle.silk_tables.specs.Rebuild.{rebuilt}
use Rattle.pitch_table.specs.declared.Row.{Row}

-- how many numbers a row has
abbrev pub row_size : ℕ
row_size = 8

-- how many frames a track, and so a sheet, has at most
abbrev pub most_frames : ℕ
most_frames = 4096

abbrev pub numbers : Row → List ℤ
numbers r = r.verdict ∷ r.index ∷ r.contour ∷ r.correlation ∷ r.lag0 ∷ r.lag1 ∷ r.lag2 ∷ r.lag3 ∷ []

-- row i of a table
unfoldable pub row_at : List ℤ → ℕ → Row
row_at t i =
    record {
      verdict = get_or t (i * row_size) (pos 0);
      index = get_or t (i * row_size + 1) (pos 0);
      contour = get_or t (i * row_size + 2) (pos 0);
      correlation = get_or t (i * row_size + 3) (pos 0);
      lag0 = get_or t (i * row_size + 4) (pos 0);
      lag1 = get_or t (i * row_size + 5) (pos 0);
      lag2 = get_or t (i * row_size + 6) (pos 0);
      lag3 = get_or t (i * row_size + 7) (pos 0);
    }

-- ---- the row of a pair

-- the lag of subframe k, rebuilt from the pair; 0 past the subframes (for nb 2 the last two lags are 0)
unfoldable pub pair_lag : Settings → ℤ → ℤ → ℕ → ℤ
pair_lag s index contour k = cond (ltb k s.nb) (rebuilt s.rate s.nb index (nat_abs contour) k) (pos 0)

-- a voiced row, from its pair and its correlation
unfoldable pub voiced_row : Settings → ℤ → ℤ → ℤ → Row
voiced_row s index contour correlation =
    record {
      verdict = pos 0;
      index = index;
      contour = contour;
      correlation = correlation;
      lag0 = pair_lag s index contour 0;
      lag1 = pair_lag s index contour 1;
      lag2 = pair_lag s index contour 2;
      lag3 = pair_lag s index contour 3;
    }

-- an unpitched row (unvoiced, or of a zero divisor) holds 0 after its verdict
unfoldable pub unpitched_row : ℤ → Row
unpitched_row verdict =
    record { verdict = verdict; index = pos 0; contour = pos 0; correlation = pos 0; lag0 = pos 0; lag1 = pos 0; lag2 = pos 0; lag3 = pos 0 }
