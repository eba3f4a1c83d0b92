-- Laws of rows: the lag of a subframe of a pair, by its test.
use Rattle.std.specs.Prelude.{◌≡◌, ℕ, ◌≤◌, ◌<◌, ℤ, pos, nat_abs}
use Rattle.std.proofs.Common.{lt-ltb, le-ltb}
use Rattle.pitch_settings.specs.declared.Settings.{Settings}
use Rattle.silk_tables.specs.Rebuild.{rebuilt}
use Rattle.pitch_table.specs.Row.{pair_lag}

module _ (s : Settings) (index contour : ℤ) (k : ℕ) where
  pub pair_lag_in : k < s.nb → pair_lag s index contour k ≡ rebuilt s.rate s.nb index (nat_abs contour) k
  unfolding pair_lag
  pair_lag_in h = rw (lt-ltb k s.nb h)

  pub pair_lag_past : s.nb ≤ k → pair_lag s index contour k ≡ pos 0
  unfolding pair_lag
  pair_lag_past h = rw (le-ltb k s.nb h)
