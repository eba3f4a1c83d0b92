-- RFC 6716, section 4.2.7.6.1: the lags that a lag index and a contour index stand for. fs is the rate in kHz, so a millisecond is fs samples; nb is the subframe
-- count and k a subframe. Definitions only; the laws are in `RebuildLaws`.
use Rattle.std.specs.Prelude.{Option, Some, None, ◌≡◌, Bool, ◌&&◌, cond, List, [], ◌∷◌, ◌⊎◌, ℕ, ◌*◌, ◌≤◌, ◌<◌, eqb, ltb, ℤ, pos, nat_abs, ◌+ℤ◌, ◌≤ℤ◌, ◌<ℤ◌}
use Rattle.std.specs.Int.Signed.{le_z, lt_z}
use Rattle.zint.specs.Clamp.{clamp}
use Rattle.lists.specs.Fill.{tabulate}
use Rattle.pitch_settings.specs.Settings.{settings_refusal, complexity_held}
use Rattle.silk_tables.specs.Tables.{least_lag, offset, offset2, contours, greatest_index}

-- lag_min is 2 ms, the least lag tried, and lag_max 18 ms, whatever the greatest lag tried
abbrev pub lag_min : ℕ → ℕ
lag_min fs = least_lag fs

abbrev pub lag_max : ℕ → ℕ
lag_max fs = 18 * fs

-- the primary lag: the index counts from lag_min
unfoldable pub primary : ℕ → ℤ → ℤ
primary fs index = pos (lag_min fs) +ℤ index

-- the four codebooks, by bandwidth and frame size: how many entries a book has, and the offset of one of them for subframe k
unfoldable pub book_entries : ℕ → ℕ → ℕ
book_entries fs nb = cond (eqb fs 8) (cond (eqb nb 4) 11 3) (cond (eqb nb 4) 34 12)

unfoldable pub book : ℕ → ℕ → ℕ → ℕ → ℤ
book fs nb k contour = cond (eqb fs 8) (offset2 nb k contour) (offset nb k contour)

-- the lag of subframe k: take the primary lag; add the codebook's offset; hold the sum between lag_min and lag_max, both ends allowed
unfoldable pub rebuilt : ℕ → ℕ → ℤ → ℕ → ℕ → ℤ
rebuilt fs nb index contour k = clamp (pos (lag_min fs)) (pos (lag_max fs)) (primary fs index +ℤ book fs nb k contour)

-- the lags of a frame, one for each subframe
unfoldable pub lags : ℕ → ℕ → ℤ → ℕ → List ℤ
lags fs nb index contour = tabulate (rebuilt fs nb index contour) nb

-- numbers for which the books have an entry and the sum is small
pub record Coded (fs nb : ℕ) (index : ℤ) (contour k : ℕ) : Type 0 where
  pub rate_ge : 8 ≤ fs
  pub rate_le : fs ≤ 16
  pub subframes : (nb ≡ 2) ⊎ (nb ≡ 4)
  pub index_ge : pos 0 ≤ℤ index
  pub index_le : index ≤ℤ pos 256
  pub entry : contour < book_entries fs nb
  pub subframe : k < nb

-- ---- which pairs there are (docs/SCOPE.md, Contours and Sheet)

-- the pair: an index from 0 to the greatest at this rate, and a contour in use
unfoldable pub carried : ℕ → ℕ → ℕ → ℤ → ℤ → Bool
carried fs nb cx index contour =
    le_z (pos 0) index && le_z index (pos (greatest_index fs)) && le_z (pos 0) contour && lt_z contour (pos (contours fs nb cx))

-- the same as facts
pub record CarriedPair (fs nb cx : ℕ) (index contour : ℤ) : Type 0 where
  pub index_ge : pos 0 ≤ℤ index
  pub index_le : index ≤ℤ pos (greatest_index fs)
  pub contour_ge : pos 0 ≤ℤ contour
  pub contour_lt : contour <ℤ pos (contours fs nb cx)

-- settings that a sheet can hold, a subframe of the frame, and a carried pair
abbrev pub rebuildable : ℕ → ℕ → ℕ → ℤ → ℤ → ℕ → Bool
rebuildable fs nb cx index contour k = eqb (settings_refusal fs nb (complexity_held cx)) 0 && ltb k nb && carried fs nb cx index contour

-- the answer for any numbers: a lag where there is one to rebuild
unfoldable pub rebuild_call : ℕ → ℕ → ℕ → ℤ → ℤ → ℕ → Option ℤ
rebuild_call fs nb cx index contour k =
    cond (rebuildable fs nb cx index contour k) (Some (rebuilt fs nb index (nat_abs contour) k)) None

-- the answer in numbers: 0 and the lag, or 9 (malformed) for numbers that are no pair of a frame; and which of the two comes
abbrev pub rebuilt_numbers : Option ℤ → List ℤ
rebuilt_numbers (Some l) = pos 0 ∷ l ∷ []
rebuilt_numbers None = pos 9 ∷ []

unfoldable pub rebuilt_number : ℕ → ℕ → ℕ → ℤ → ℤ → ℕ → ℕ
rebuilt_number fs nb cx index contour k = cond (rebuildable fs nb cx index contour k) 0 9
