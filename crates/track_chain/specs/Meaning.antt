-- What each finished row of a track says (docs/SCOPE.md, Track, and its row rules). Each statement is of the row's own numbers: a voiced row's pair is the last
-- stage's best by comparison or the scaled winner with contour 0, and its lags are those that the RFC rebuilds from that pair; a row is unvoiced exactly where no divisor reached is zero and
-- stage 1's best is under 3277 or no lag passes stage 2; it is a zero-divisor row exactly where a divisor reached is zero.
use Rattle.std.specs.Prelude.{◌≡◌, List, [], ◌∷◌, ◌⊎◌, ℕ, ◌≤◌, ◌<◌, ℤ, pos, nat_abs, get_or, replicate}
use Rattle.pitch_settings.specs.declared.Settings.{Settings}
use Rattle.pitch_table.specs.declared.Row.{Row}
use Rattle.pitch_table.specs.Row.{numbers}
use Rattle.track_paper.specs.declared.Prev.{Prev}
use Rattle.silk_tables.specs.Rebuild.{rebuilt}
use Rattle.silk_pitch_analysis.specs.Meaning.{VoicedWhen, UnvoicedWhen, ZeroWhen}

-- the lag of subframe k
abbrev pub subframe_lag : Row → ℕ → ℤ
subframe_lag r k = get_or (r.lag0 ∷ r.lag1 ∷ r.lag2 ∷ r.lag3 ∷ []) k (pos 0)

-- the row is voiced, with this index, contour and correlation
pub record VoicedRow (r : Row) (index contour correlation : ℤ) : Type 0 where
  pub verdict_is : r.verdict ≡ pos 0
  pub index_is : r.index ≡ index
  pub contour_is : r.contour ≡ contour
  pub correlation_is : r.correlation ≡ correlation

-- the row r of the frame x, where p is what the previous row left
pub record RowSays (s : Settings) (x : List ℤ) (p : Prev) (r : Row) : Type 0 where
  -- the verdict is one of three
  pub verdicts : (r.verdict ≡ pos 0) ⊎ ((r.verdict ≡ pos 1) ⊎ (r.verdict ≡ pos 2))
  -- voiced, with its own index, contour and correlation, exactly where the last stage has that pair and the winner that correlation
  pub voiced_only : r.verdict ≡ pos 0 → VoicedWhen s x p.lag p.correlation r.index r.contour r.correlation
  pub voiced_where : (index contour correlation : ℤ) → VoicedWhen s x p.lag p.correlation index contour correlation → VoicedRow r index contour correlation
  pub unvoiced_only : r.verdict ≡ pos 1 → UnvoicedWhen s x p.lag p.correlation
  pub unvoiced_where : UnvoicedWhen s x p.lag p.correlation → r.verdict ≡ pos 1
  pub zero_only : r.verdict ≡ pos 2 → ZeroWhen s x p.lag p.correlation
  pub zero_where : ZeroWhen s x p.lag p.correlation → r.verdict ≡ pos 2
  -- the lags of a voiced row are the RFC's; the places from nb on hold 0, and so does a row that is not voiced after its verdict
  pub lags : r.verdict ≡ pos 0 → (k : ℕ) → k < s.nb → subframe_lag r k ≡ rebuilt s.rate s.nb r.index (nat_abs r.contour) k
  pub no_more_lags : (k : ℕ) → s.nb ≤ k → subframe_lag r k ≡ pos 0
  pub zeros_after : (r.verdict ≡ pos 0 → ⊥) → numbers r ≡ r.verdict ∷ replicate 7 (pos 0)
