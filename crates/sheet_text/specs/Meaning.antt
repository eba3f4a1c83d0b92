-- The program's text, by what a sheet holds. Statements only; `MeaningLaws` proves them.
use Rattle.std.specs.Prelude.{◌≡◌, List, ℕ, length, get_or}
use Rattle.pitch_settings.specs.declared.Settings.{Settings}
use Rattle.pitch_table.specs.declared.Row.{Row}
use Rattle.pitch_text.specs.Text.{refused_text}
use Rattle.sheet_bytes.specs.Bytes.{Bytes}
use Rattle.sheet_sections.specs.Sheet.{sheet}
use Rattle.pitch_sheet.specs.Holds.{no_row, Holds}
use Rattle.pitch_sheet.specs.RoundTrip.{IsSheet}
use Rattle.sheet_text.specs.Program.{sheet_report, sheet_text}

pub record Meaning : Type 0 where
  -- the sheet of settings and rows: these settings and these rows
  pub of_sheet : (s : Settings) (rs : List Row) → Holds s rs → sheet_text (sheet s rs) ≡ sheet_report s (λ i. get_or rs i no_row) (length rs)
  -- any other bytes: 9
  pub of_other : (p : List ℕ) → Bytes p → (IsSheet p → ⊥) → sheet_text p ≡ refused_text 9
