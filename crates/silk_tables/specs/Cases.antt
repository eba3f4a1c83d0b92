-- Worked cases of the rebuilding, in one table: rate, subframes, lag index, contour, and the lags; and the theorem that each is what the definition gives, by computing.
use Rattle.std.specs.Prelude.{◌≡◌, refl, List, [], ◌∷◌, map, ℕ, ℤ, pos}
use Rattle.zint.specs.Clamp.{clamp}
use Rattle.lists.specs.Fill.{tabulate}
use Rattle.silk_tables.specs.Tables.{cb_lags_stage2_10_ms, offset2, cb_lags_stage3, offset}
use Rattle.silk_tables.specs.Rebuild.{primary, book, rebuilt, lags}

pub record Case : Type 0 where
  pub fs : ℕ
  pub nb : ℕ
  pub index : ℤ
  pub contour : ℕ
  pub lags : List ℤ

unfoldable pub cases : List Case
cases =
    record { fs = 16; nb = 4; index = pos 0; contour = 33; lags = pos 32 ∷ pos 32 ∷ pos 35 ∷ pos 41 ∷ [] }
    ∷ record { fs = 16; nb = 4; index = pos 255; contour = 32; lags = pos 288 ∷ pos 288 ∷ pos 285 ∷ pos 280 ∷ [] }
    ∷ record { fs = 8; nb = 2; index = pos 127; contour = 1; lags = pos 144 ∷ pos 143 ∷ [] }
    ∷ []

pub cases_hold : map (λ (c : Case). lags c.fs c.nb c.index c.contour) cases ≡ map (λ (c : Case). c.lags) cases
unfolding cases lags tabulate rebuilt clamp primary book offset2 offset cb_lags_stage2_10_ms cb_lags_stage3
cases_hold = refl
