-- Bounds of a table's entries, by one computed test over the table; past the table's end 0 is read, so the bounds hold at every row and column. And what the code reads
-- of an entry.
use Rattle.std.specs.Prelude.{◌≡◌, refl, Bool, true, ◌&&◌, cond, ℕ, zero, suc, ◌^◌, ◌<◌, eqb, ℤ, pos, get_or, ◌≤ℤ◌, List, [], ◌∷◌}
use Rattle.std.proofs.Common.{ap, eq-eqb, ne_eqb, SFits, to_z, of_z}
use Rattle.std.specs.Int.Signed.{mag, le_z}
use Rattle.std.specs.Int.{w8, w32}
use mir.Val.{hbits}
use Rattle.zint.specs.BoundLaws.{widen}
use Rattle.zint.specs.ReadLaws.{r_elem, r_cast, f_cast}
use Rattle.zint.specs.TestLaws.{le_true}
use Rattle.zint.specs.BoolLaws.{and_left, and_right}

unfoldable pub all_of : {A : Type 0} → (A → Bool) → List A → Bool
all_of test [] = true
all_of test (x ∷ xs) = test x && all_of test xs

unfoldable pub within : ℤ → ℤ → ℤ → Bool
within lo hi o = le_z lo o && le_z o hi

-- every entry of a table is within lo to hi, and so is 0
unfoldable pub table_within : ℤ → ℤ → List (List ℤ) → Bool
table_within lo hi rows = within lo hi (pos 0) && all_of (all_of (within lo hi)) rows

-- an entry of a list that passes, and what is read past its end
all_at : {A : Type 0} (test : A → Bool) (xs : List A) (i : ℕ) (d : A) → all_of test xs ≡ true → test d ≡ true → test (get_or xs i d) ≡ true
unfolding all_of
all_at test [] i d e f = f
all_at test (x ∷ xs) zero d e f = and_left (test x) (all_of test xs) e
all_at test (x ∷ xs) (suc i) d e f = all_at test xs i d (and_right (test x) (all_of test xs) e) f

abbrev pub entry : List (List ℤ) → ℕ → ℕ → ℤ
entry rows k j = get_or (get_or rows k []) j (pos 0)

module _ (lo hi : ℤ) (rows : List (List ℤ)) (e : table_within lo hi rows ≡ true) (k j : ℕ) where
  entry_in : within lo hi (entry rows k j) ≡ true
  unfolding table_within all_of
  entry_in =
      let zero_in = and_left (within lo hi (pos 0)) (all_of (all_of (within lo hi)) rows) e in
      all_at (within lo hi) (get_or rows k []) j (pos 0) (all_at (all_of (within lo hi)) rows k [] (and_right (within lo hi (pos 0)) (all_of (all_of (within lo hi)) rows) e) refl) zero_in

  pub entry_ge : lo ≤ℤ entry rows k j
  unfolding within
  entry_ge = le_true lo (entry rows k j) (and_left (le_z lo (entry rows k j)) (le_z (entry rows k j) hi) entry_in)

  pub entry_le : entry rows k j ≤ℤ hi
  unfolding within
  entry_le = le_true (entry rows k j) hi (and_right (le_z lo (entry rows k j)) (le_z (entry rows k j) hi) entry_in)

-- ---- an entry of the table that the subframe count chooses, of one for four subframes and one for two

module _ (t u : List (List ℤ)) (nb k j : ℕ) where
  pub entry_4 : nb ≡ 4 → entry (cond (eqb nb 4) t u) k j ≡ entry t k j
  entry_4 e = ap (λ (b : Bool). entry (cond b t u) k j) (eq-eqb nb 4 e)

  pub entry_2 : (nb ≡ 4 → ⊥) → entry (cond (eqb nb 4) t u) k j ≡ entry u k j
  entry_2 g = ap (λ (b : Bool). entry (cond b t u) k j) (ne_eqb nb 4 g)

-- ---- an entry that is read and widened: that it fits, and what it is
pub wide_fits : (z : ℤ) → mag z < 2 ^ hbits w8 → SFits w32 (to_z w8 (of_z w8 z))
wide_fits z h = let e = r_elem w8 z h in f_cast e (widen w8 w32 tt e.fit)

pub wide_is : (z : ℤ) → mag z < 2 ^ hbits w8 → to_z w32 (of_z w32 (to_z w8 (of_z w8 z))) ≡ z
wide_is z h = let e = r_elem w8 z h in (r_cast e (widen w8 w32 tt e.fit)).val
