-- The bounds of stage 2's offsets, tested once over each table, and the tables and counts that the settings choose.
use Rattle.std.specs.Prelude.{◌≡◌, refl, Bool, true, false, ◌&&◌, cond, ℕ, ◌+◌, ◌≤◌, eqb, ltb, pos, negsuc, ◌+ℤ◌, ◌≤ℤ◌}
use Rattle.std.proofs.Common.{sym, ap, ◌∙◌, lit≤, ne_eqb, SFits}
use Rattle.std.proofs.Math.Bool.{and-false}
use Rattle.std.specs.Int.{w32}
use Rattle.zint.specs.ShiftLaws.{nonneg_abs}
use Rattle.zint.specs.DiffLaws.{v, n as num, ◌⊕◌, le_by, sfits_by, eq_in, zarith}
use Rattle.silk_tables.specs.EntryLaws.{table_within, all_of, within, entry_ge, entry_le}
use Rattle.silk_tables.specs.Tables.{cb_lags_stage2, cb_lags_stage2_10_ms, entries2, contours2, offset2, moved_lag2}

-- ---- the tables and counts that the settings choose

pub entries2_4 : (nb : ℕ) → nb ≡ 4 → entries2 nb ≡ 11
unfolding entries2
entries2_4 nb e = ap entries2 e

pub entries2_other : (nb : ℕ) → (nb ≡ 4 → ⊥) → entries2 nb ≡ 3
unfolding entries2
entries2_other nb g = ap (λ (t : Bool). cond t 11 3) (ne_eqb nb 4 g)

-- the count by the three tests
pub contours2_by : (fs nb cx : ℕ) {a b c : Bool} → eqb fs 8 ≡ a → eqb nb 4 ≡ b → ltb 0 cx ≡ c → contours2 fs nb cx ≡ cond (a && (b && c)) 11 3
unfolding contours2
contours2_by fs nb cx p q r = λ i. cond (p i && (q i && r i)) 11 3

pub contours2_other : (fs nb cx : ℕ) → (nb ≡ 4 → ⊥) → contours2 fs nb cx ≡ 3
contours2_other fs nb cx g = contours2_by fs nb cx refl (ne_eqb nb 4 g) refl ∙ ap (λ (t : Bool). cond t 11 3) (and-false (eqb fs 8))

by_tests : (a b c : Bool) → cond (a && (b && c)) 11 3 ≤ cond b 11 3
by_tests true true true = lit≤ tt
by_tests true true false = lit≤ tt
by_tests true false c = lit≤ tt
by_tests false true c = lit≤ tt
by_tests false false c = lit≤ tt

-- every contour that is tried is in the table
pub contours2_le : (fs nb cx : ℕ) → contours2 fs nb cx ≤ entries2 nb
unfolding contours2 entries2
contours2_le fs nb cx = by_tests (eqb fs 8) (eqb nb 4) (ltb 0 cx)

few : (t : Bool) → (3 ≤ cond t 11 3) × (cond t 11 3 ≤ 11)
few true = (lit≤ tt, lit≤ tt)
few false = (lit≤ tt, lit≤ tt)

pub contours2_bounds : (fs nb cx : ℕ) → (3 ≤ contours2 fs nb cx) × (contours2 fs nb cx ≤ 11)
unfolding contours2
contours2_bounds fs nb cx = few (eqb fs 8 && (eqb nb 4 && ltb 0 cx))

-- ---- the test over each table, and what it says of a subframe and a contour

small : (t : Bool) → table_within (negsuc 0) (pos 2) (cond t cb_lags_stage2 cb_lags_stage2_10_ms) ≡ true
unfolding table_within all_of within cb_lags_stage2 cb_lags_stage2_10_ms
small true = refl
small false = refl

pub offset2_ge : (nb k j : ℕ) → negsuc 0 ≤ℤ offset2 nb k j
unfolding offset2
offset2_ge nb k j = entry_ge (negsuc 0) (pos 2) (cond (eqb nb 4) cb_lags_stage2 cb_lags_stage2_10_ms) (small (eqb nb 4)) k j

pub offset2_le : (nb k j : ℕ) → offset2 nb k j ≤ℤ pos 2
unfolding offset2
offset2_le nb k j = entry_le (negsuc 0) (pos 2) (cond (eqb nb 4) cb_lags_stage2 cb_lags_stage2_10_ms) (small (eqb nb 4)) k j

-- ---- a lag moved by an offset

pub moved2_is : (nb k d j : ℕ) → 1 ≤ d → pos (moved_lag2 nb k d j) ≡ pos d +ℤ offset2 nb k j
unfolding moved_lag2
moved2_is nb k d j h = sym (nonneg_abs (pos d +ℤ offset2 nb k j) (let p = offset2_ge nb k j in le_by (num 0) (num d ⊕ v (offset2 nb k j)) (omega zarith)))

pub moved2_bounds : (nb k d j : ℕ) → 1 ≤ d → (d ≤ moved_lag2 nb k d j + 1) × (moved_lag2 nb k d j ≤ d + 2)
moved2_bounds nb k d j h =
    let e = eq_in (num (moved_lag2 nb k d j)) (num d ⊕ v (offset2 nb k j)) (moved2_is nb k d j h) in
    let p = offset2_ge nb k j in
    let q = offset2_le nb k j in
    (omega zarith, omega zarith)

pub moved2_fits : (nb k d j : ℕ) → d ≤ 288 → SFits w32 (pos d +ℤ offset2 nb k j)
moved2_fits nb k d j h =
    let p = offset2_ge nb k j in
    let q = offset2_le nb k j in
    sfits_by w32 (num d ⊕ v (offset2 nb k j)) (omega zarith) (omega zarith)
