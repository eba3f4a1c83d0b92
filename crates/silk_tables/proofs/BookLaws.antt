-- Every offset of a codebook lies within -9 to 9, and so the sum that is held fits. A wrong entry of a table makes these false.
use Rattle.std.proofs.Common.{◌≡◌, refl, Bool, true, false, cond, ℕ, ◌*◌, ℤ, pos, negsuc, ◌+ℤ◌, ◌≤ℤ◌, eqb, w32, SFits}
use Rattle.zint.specs.DiffLaws.{v, n as num, ◌⊕◌, le_of, sfits_by, zarith}
use Rattle.silk_tables.specs.Tables.{cb_lags_stage3, cb_lags_stage3_10_ms, offset, offset2}
use Rattle.silk_tables.specs.Rebuild.{lag_min, book, Coded}
use Rattle.silk_tables.specs.EntryLaws.{table_within, all_of, within, entry_ge, entry_le}
use Rattle.silk_tables.specs.Stage2Laws.{offset2_ge, offset2_le}

-- every offset of a book lies within -9 to 9
far : (t : Bool) → table_within (negsuc 8) (pos 9) (cond t cb_lags_stage3 cb_lags_stage3_10_ms) ≡ true
unfolding table_within all_of within cb_lags_stage3 cb_lags_stage3_10_ms
far true = refl
far false = refl

pub book_bounds : (fs nb k j : ℕ) → (negsuc 8 ≤ℤ book fs nb k j) × (book fs nb k j ≤ℤ pos 9)
unfolding book offset
book_bounds fs nb k j = by (eqb fs 8)
  where
    by : (t : Bool) → (negsuc 8 ≤ℤ cond t (offset2 nb k j) (offset nb k j)) × (cond t (offset2 nb k j) (offset nb k j) ≤ℤ pos 9)
    by true =
        let p = offset2_ge nb k j in
        let q = offset2_le nb k j in
        (le_of (negsuc 8) (offset2 nb k j) (omega zarith), le_of (offset2 nb k j) (pos 9) (omega zarith))
    by false = (entry_ge (negsuc 8) (pos 9) (cond (eqb nb 4) cb_lags_stage3 cb_lags_stage3_10_ms) (far (eqb nb 4)) k j, entry_le (negsuc 8) (pos 9) (cond (eqb nb 4) cb_lags_stage3 cb_lags_stage3_10_ms) (far (eqb nb 4)) k j)

pub sum_fits : {fs nb : ℕ} {index : ℤ} {contour k : ℕ} → Coded fs nb index contour k → SFits w32 (pos (lag_min fs) +ℤ index +ℤ book fs nb k contour)
sum_fits {fs} {nb} {index} {contour} {k} c =
    let p = c.index_ge in
    let q = c.index_le in
    let b = (book_bounds fs nb k contour).0 in
    let d = (book_bounds fs nb k contour).1 in
    sfits_by w32 (num (2 * fs) ⊕ v index ⊕ v (book fs nb k contour)) (omega zarith) (omega zarith)
