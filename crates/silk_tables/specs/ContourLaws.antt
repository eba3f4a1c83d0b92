-- Laws of the contours in use, the greatest index and the codebooks: which each rate chooses, and their bounds.
use Rattle.std.specs.Prelude.{◌≡◌, Bool, true, false, cond, [], ◌∷◌, ◌⊎◌, ℕ, zero, suc, ◌+◌, ◌-◌, ◌*◌, ◌≤◌, eqb, get_or}
use Rattle.std.proofs.Common.{sym, ap, ◌∙◌, ⊎_elim, arith, lit≤, eq-eqb, ne_eqb}
use Rattle.silk_tables.specs.Tables.{in_use, offset, offset2, entries2, contours2, contours, least_lag, greatest_lag, known_rate, greatest_index}
use Rattle.silk_tables.specs.Rebuild.{book_entries, book}
use Rattle.silk_tables.specs.Stage2Laws.{contours2_le}

-- ---- the counts and the offset that the rate chooses

pub contours_8 : (fs nb cx : ℕ) → fs ≡ 8 → contours fs nb cx ≡ contours2 fs nb cx
unfolding contours
contours_8 fs nb cx e = ap (λ (t : Bool). cond t (contours2 fs nb cx) (in_use nb cx)) (eq-eqb fs 8 e)

pub contours_other : (fs nb cx : ℕ) → (fs ≡ 8 → ⊥) → contours fs nb cx ≡ in_use nb cx
unfolding contours
contours_other fs nb cx g = ap (λ (t : Bool). cond t (contours2 fs nb cx) (in_use nb cx)) (ne_eqb fs 8 g)

pub greatest_lag_8 : (fs : ℕ) → fs ≡ 8 → greatest_lag fs ≡ 143
greatest_lag_8 fs e = ap (λ (t : Bool). cond t 143 (18 * fs)) (eq-eqb fs 8 e)

pub greatest_lag_other : (fs : ℕ) → (fs ≡ 8 → ⊥) → greatest_lag fs ≡ 18 * fs
greatest_lag_other fs g = ap (λ (t : Bool). cond t 143 (18 * fs)) (ne_eqb fs 8 g)

pub rate_by : (fs : ℕ) {a b : Bool} → eqb fs 8 ≡ a → eqb fs 12 ≡ b → known_rate fs ≡ cond a 8 (cond b 12 16)
rate_by fs p q = λ i. cond (p i) 8 (cond (q i) 12 16)

-- a rate that is one of the three
pub known : (fs : ℕ) → (fs ≡ 8) ⊎ ((fs ≡ 12) ⊎ (fs ≡ 16)) → known_rate fs ≡ fs
known fs r =
    ⊎_elim
    (λ (e : fs ≡ 8). ap known_rate e ∙ sym e)
    (λ s. ⊎_elim (λ (e : fs ≡ 12). ap known_rate e ∙ sym e) (λ (e : fs ≡ 16). ap known_rate e ∙ sym e) s)
    r

-- at such a rate the greatest index is the greatest lag less the least
pub greatest_index_is : (fs : ℕ) → (fs ≡ 8) ⊎ ((fs ≡ 12) ⊎ (fs ≡ 16)) → greatest_index fs ≡ greatest_lag fs - least_lag fs
unfolding greatest_index
greatest_index_is fs r = ap (λ (n : ℕ). greatest_lag n - least_lag n) (known fs r)

pub entries_8 : (fs nb : ℕ) → fs ≡ 8 → book_entries fs nb ≡ entries2 nb
unfolding book_entries entries2
entries_8 fs nb e = ap (λ (t : Bool). cond t (entries2 nb) (cond (eqb nb 4) 34 12)) (eq-eqb fs 8 e)

-- stage 3's book has the contours in use at complexity 2
pub entries_other : (fs nb : ℕ) → (fs ≡ 8 → ⊥) → book_entries fs nb ≡ in_use nb 2
unfolding book_entries in_use
entries_other fs nb g = ap (λ (t : Bool). cond t (cond (eqb nb 4) 11 3) (in_use nb 2)) (ne_eqb fs 8 g)

pub book_8 : (fs nb k j : ℕ) → fs ≡ 8 → book fs nb k j ≡ offset2 nb k j
unfolding book
book_8 fs nb k j e = ap (λ (t : Bool). cond t (offset2 nb k j) (offset nb k j)) (eq-eqb fs 8 e)

pub book_other : (fs nb k j : ℕ) → (fs ≡ 8 → ⊥) → book fs nb k j ≡ offset nb k j
unfolding book
book_other fs nb k j g = ap (λ (t : Bool). cond t (offset2 nb k j) (offset nb k j)) (ne_eqb fs 8 g)

-- ---- their bounds

pub greatest_le : (fs : ℕ) → greatest_index fs ≤ 256
unfolding greatest_index
greatest_le fs = by (eqb fs 8) (eqb fs 12)
  where
    by : (a b : Bool) → greatest_lag (cond a 8 (cond b 12 16)) - least_lag (cond a 8 (cond b 12 16)) ≤ 256
    by true b = lit≤ tt
    by false true = lit≤ tt
    by false false = lit≤ tt

-- the rate is from 8 to 16, and the least lag at most the greatest
pub rate_span : (fs : ℕ) → (8 ≤ known_rate fs) × ((known_rate fs ≤ 16) × (least_lag (known_rate fs) ≤ greatest_lag (known_rate fs)))
rate_span fs = by (eqb fs 8) (eqb fs 12)
  where
    by : (a b : Bool) → (8 ≤ cond a 8 (cond b 12 16)) × ((cond a 8 (cond b 12 16) ≤ 16) × (least_lag (cond a 8 (cond b 12 16)) ≤ greatest_lag (cond a 8 (cond b 12 16))))
    by true b = (lit≤ tt, (lit≤ tt, lit≤ tt))
    by false true = (lit≤ tt, (lit≤ tt, lit≤ tt))
    by false false = (lit≤ tt, (lit≤ tt, lit≤ tt))

-- the greatest lag where stage 3 is the last stage: at most 18 ms, and little less
pub greatest_lag_le : (fs : ℕ) → 12 ≤ fs → greatest_lag fs ≤ 18 * fs
greatest_lag_le fs h = omega (arith, greatest_lag_other fs (λ e. omega arith))

pub greatest_lag_ge : (fs : ℕ) → 12 ≤ fs → 18 * fs ≤ greatest_lag fs + 2
greatest_lag_ge fs h = omega (arith, greatest_lag_other fs (λ e. omega arith))

most : (cx : ℕ) → get_or (16 ∷ 24 ∷ 34 ∷ []) cx 0 ≤ 34
most zero = lit≤ tt
most (suc zero) = lit≤ tt
most (suc (suc zero)) = lit≤ tt
most (suc (suc (suc m))) = lit≤ tt

in_use_le : (nb cx : ℕ) → in_use nb cx ≤ in_use nb 2
unfolding in_use
in_use_le nb cx = by (eqb nb 4)
  where
    by : (t : Bool) → cond t (get_or (16 ∷ 24 ∷ 34 ∷ []) cx 0) 12 ≤ cond t 34 12
    by true = most cx
    by false = lit≤ tt

-- every contour in use is an entry of the book
pub contours_le : (fs nb cx : ℕ) → contours fs nb cx ≤ book_entries fs nb
unfolding contours book_entries entries2 in_use
contours_le fs nb cx = by (eqb fs 8) (contours2_le fs nb cx) (in_use_le nb cx)
  where
    by : (t : Bool) → contours2 fs nb cx ≤ entries2 nb → in_use nb cx ≤ in_use nb 2 → cond t (contours2 fs nb cx) (in_use nb cx) ≤ cond t (cond (eqb nb 4) 11 3) (cond (eqb nb 4) 34 12)
    by true p q = p
    by false p q = q

pub contours_le_34 : (fs nb cx : ℕ) → contours fs nb cx ≤ 34
unfolding book_entries
contours_le_34 fs nb cx = let a = contours_le fs nb cx in let b = entries_le fs nb in omega arith
  where
    by : (a b : Bool) → cond a (cond b 11 3) (cond b 34 12) ≤ 34
    by true true = lit≤ tt
    by true false = lit≤ tt
    by false true = lit≤ tt
    by false false = lit≤ tt

    entries_le : (fs nb : ℕ) → book_entries fs nb ≤ 34
    entries_le fs nb = by (eqb fs 8) (eqb nb 4)
