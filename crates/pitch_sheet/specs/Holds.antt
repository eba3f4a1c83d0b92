-- What a sheet can hold (docs/SCOPE.md, Sheet). Definition only.
use Rattle.std.specs.Prelude.{◌≡◌, true, List, ℕ, ◌≤◌, ◌<◌, pos, length, get_or}
use Rattle.std.specs.Int.{w32}
use Rattle.std.proofs.Common.{SFits}
use Rattle.pitch_settings.specs.declared.Settings.{Settings}
use Rattle.pitch_settings.specs.Settings.{held_no}
use Rattle.pitch_table.specs.declared.Row.{Row}
use Rattle.pitch_table.specs.Row.{most_frames, unpitched_row}
use Rattle.sheet_rows.specs.Rows.{row_holds}

-- what `get_or` gives past the end of a list of rows
abbrev pub no_row : Row
no_row = unpitched_row (pos 1)

-- settings that a sheet can hold, with thresholds of 32 bits, and no more rows than a sheet may have, each one that a sheet can hold, with a correlation of 32 bits
pub record Holds (s : Settings) (rs : List Row) : Type 0 where
  pub settings : held_no s ≡ 0
  pub thres1 : SFits w32 s.thres1
  pub thres2 : SFits w32 s.thres2
  pub few : length rs ≤ most_frames
  pub rows : (i : ℕ) → i < length rs → row_holds s (get_or rs i no_row) ≡ true
  pub correlations : (i : ℕ) → i < length rs → SFits w32 (get_or rs i no_row).correlation
