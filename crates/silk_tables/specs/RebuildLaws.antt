-- Laws of the rebuilding: the bounds of a lag, and that the source's own assembly is the rebuilding.
use Rattle.std.specs.Prelude.{◌≡◌, refl, Bool, true, false, ℕ, ◌-◌, ◌*◌, ◌≤◌, ℤ, pos, ◌+ℤ◌, ◌≤ℤ◌}
use Rattle.std.proofs.Common.{sym, ap, arith, SFits}
use Rattle.std.specs.Int.{w32}
use Rattle.std.specs.Int.Signed.{lt_z, ≤ℤ_refl}
use mir.Val.{sel}
use Rattle.zint.specs.Clamp.{clamp}
use Rattle.zint.specs.TestLaws.{lt_false}
use Rattle.zint.specs.DiffLaws.{v, n as num, ◌⊕◌, le_of, sfits_by, sfits_of_ud, zarith}
use Rattle.silk_tables.specs.Tables.{offset, offset2}
use Rattle.silk_tables.specs.Rebuild.{lag_min, primary, book, rebuilt, Coded}
use Rattle.silk_tables.specs.ContourLaws.{book_8, book_other}

-- ---- the sums fit

pub primary_fits : {fs nb : ℕ} {index : ℤ} {contour k : ℕ} → Coded fs nb index contour k → SFits w32 (pos (lag_min fs) +ℤ index)
primary_fits {fs} {nb} {index} c =
    let p = c.index_ge in
    let q = c.index_le in
    sfits_by w32 (num (2 * fs) ⊕ v index) (omega zarith) (omega zarith)

-- ---- a held number lies between the two bounds

held_between : (lo hi z : ℤ) → lo ≤ℤ hi → (lo ≤ℤ clamp lo hi z) × (clamp lo hi z ≤ℤ hi)
unfolding clamp
held_between lo hi z h = by (lt_z hi z) (lt_z z lo) refl refl
  where
    by : (t u : Bool) → lt_z hi z ≡ t → lt_z z lo ≡ u → (lo ≤ℤ sel t hi (sel u lo z)) × (sel t hi (sel u lo z) ≤ℤ hi)
    by true u e f = (h, ≤ℤ_refl hi)
    by false true e f = (≤ℤ_refl lo, h)
    by false false e f = (lt_false z lo f, lt_false hi z e)

-- a rebuilt lag lies within 2fs to 18fs, whatever the pair
module _ (fs nb : ℕ) (index : ℤ) (contour k : ℕ) where
  between : (pos (2 * fs) ≤ℤ rebuilt fs nb index contour k) × (rebuilt fs nb index contour k ≤ℤ pos (18 * fs))
  unfolding rebuilt
  between = held_between (pos (2 * fs)) (pos (18 * fs)) (primary fs index +ℤ book fs nb k contour) (le_of (pos (2 * fs)) (pos (18 * fs)) (omega arith))

  pub rebuilt_ge : pos (2 * fs) ≤ℤ rebuilt fs nb index contour k
  rebuilt_ge = between.0

  pub rebuilt_le : rebuilt fs nb index contour k ≤ℤ pos (18 * fs)
  rebuilt_le = between.1

  pub rebuilt_fits : fs ≤ 16 → SFits w32 (rebuilt fs nb index contour k)
  rebuilt_fits h = let p = rebuilt_ge in let q = rebuilt_le in sfits_of_ud w32 (rebuilt fs nb index contour k) (omega zarith) (omega zarith)

-- ---- the source's own assembly: the lag d of the last stage, moved by the offset, held by `silk_limit`

primary_of : (fs d : ℕ) → 2 * fs ≤ d → primary fs (pos (d - 2 * fs)) ≡ pos d
unfolding primary
primary_of fs d h = ap pos (omega arith)

-- at 8 kHz
pub assembled_8 : (nb d j k : ℕ) → 16 ≤ d → clamp (pos 16) (pos 144) (pos d +ℤ offset2 nb k j) ≡ rebuilt 8 nb (pos (d - 16)) j k
unfolding rebuilt
assembled_8 nb d j k h = sym (λ i. clamp (pos 16) (pos 144) (primary_of 8 d h i +ℤ book_8 8 nb k j refl i))

-- at 12 and 16 kHz
pub assembled : (fs nb d j k : ℕ) → (fs ≡ 8 → ⊥) → 2 * fs ≤ d → clamp (pos (2 * fs)) (pos (18 * fs)) (pos d +ℤ offset nb k j) ≡ rebuilt fs nb (pos (d - 2 * fs)) j k
unfolding rebuilt
assembled fs nb d j k g h = sym (λ i. clamp (pos (2 * fs)) (pos (18 * fs)) (primary_of fs d h i +ℤ book_other fs nb k j g i))
