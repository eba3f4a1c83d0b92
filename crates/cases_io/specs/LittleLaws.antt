-- Laws of little-endian numbers: past the end they are 0, so that a place may be cut to the end; and one element more of a load and of a comparison.
use Rattle.std.specs.Prelude.{◌≡◌, ℕ, zero, suc, ◌+◌, ◌-◌, ◌<◌, ◌≤◌, min, Bool, true, false, ◌&&◌, List, [], ◌∷◌, length, replicate, take, drop, ◌*◌, pos, Some, None, slice_get, slice_index, slice_set, refl}
use Rattle.std.proofs.Math.Bool.{and-false}
use Rattle.std.specs.Int.{w16, w32, w64, from_le_bytes}
use Rattle.std.specs.Array.{IsFirstChunk}
use Rattle.std.proofs.Common.{sym, ap, ap₂, ◌∙◌, subst, add-one, arith, length-set, length-drop, length-take-le, get_or-drop, get_or-take}
use Rattle.std.proofs.Math.Decide.{dec_lt}
use Rattle.std.proofs.lemmas.List.{get_or_past, length-replicate}
use Rattle.lists.specs.Fill.{filled, tabulate}
use Rattle.lists.specs.FillLaws.{filled_none, filled_turn, filled_all, tabulate_is, tail_part}
use Rattle.zint.specs.Wrap.{wrap, mod_z}
use Rattle.cases_io.specs.Little.{u16_at, u32_at, u64_at, i16_at, i32_at, is_number, agree, numbers_at}

-- ---- past the end
pub byte_past : (xs : List ℕ) (k : ℕ) → length xs ≤ k → slice_index xs k ≡ 0
byte_past xs k h = get_or_past xs k 0 h

pub u16_past : (xs : List ℕ) (k : ℕ) → length xs ≤ k → u16_at xs k ≡ 0
unfolding u16_at
u16_past xs k h = omega (arith, byte_past xs k h, byte_past xs (k + 1) (omega arith))

pub u32_past : (xs : List ℕ) (k : ℕ) → length xs ≤ k → u32_at xs k ≡ 0
unfolding u32_at
u32_past xs k h = omega (arith, u16_past xs k h, u16_past xs (k + 2) (omega arith))

pub u64_past : (xs : List ℕ) (k : ℕ) → length xs ≤ k → u64_at xs k ≡ 0
unfolding u64_at
u64_past xs k h = omega (arith, u32_past xs k h, u32_past xs (k + 4) (omega arith))

pub i16_past : (xs : List ℕ) (k : ℕ) → length xs ≤ k → i16_at xs k ≡ pos 0
unfolding i16_at wrap mod_z
i16_past xs k h = rw (u16_past xs k h)

pub i32_past : (xs : List ℕ) (k : ℕ) → length xs ≤ k → i32_at xs k ≡ pos 0
unfolding i32_at wrap mod_z
i32_past xs k h = rw (u32_past xs k h)

-- so a number at a place that is cut to the end n is that at the place
pub at_cut : {A : Type 0} (z : A) (F : ℕ → A) (n : ℕ) → ((k : ℕ) → n ≤ k → F k ≡ z) → (place from : ℕ) → from ≡ min place n → F from ≡ F place
at_cut z F n past place from e = go (dec_lt place n)
  where
    go : Dec (place < n) → F from ≡ F place
    go (yes l) = ap F (omega arith)
    go (no g) = past from (omega arith) ∙ sym (past place (omega arith))

pub byte_cut : (xs : List ℕ) (place from : ℕ) → from ≡ min place (length xs) → slice_index xs from ≡ slice_index xs place
byte_cut xs = at_cut 0 (slice_index xs) (length xs) (byte_past xs)

-- the bytes from a place on, by which a number is read
pub two_bytes : (xs : List ℕ) (at : ℕ) → from_le_bytes w16 (filled (numbers_at slice_index 1 xs at) 2 (0 ∷ 0 ∷ [])) ≡ u16_at xs at
unfolding filled tabulate u16_at
two_bytes xs at = ap₂ (λ (x y : ℕ). x + y * 256) (ap (slice_index xs) (omega arith)) (ap (slice_index xs) (omega arith))

pub four_bytes : (xs : List ℕ) (at : ℕ) → from_le_bytes w32 (filled (numbers_at slice_index 1 xs at) 4 (0 ∷ 0 ∷ 0 ∷ 0 ∷ [])) ≡ u32_at xs at
unfolding filled tabulate u16_at u32_at
four_bytes xs at =
    let first : at + 1 * 0 ≡ at = omega arith in
    let fourth : at + 3 ≡ at + 2 + 1 = omega arith in
    omega (arith, ap (slice_index xs) first, ap (slice_index xs) fourth)

pub eight_bytes : (xs : List ℕ) (at : ℕ) → from_le_bytes w64 (filled (numbers_at slice_index 1 xs at) 8 (0 ∷ 0 ∷ 0 ∷ 0 ∷ 0 ∷ 0 ∷ 0 ∷ 0 ∷ [])) ≡ u64_at xs at
unfolding filled tabulate u16_at u32_at u64_at
eight_bytes xs at =
    let first : at + 1 * 0 ≡ at = omega arith in
    let fourth : at + 3 ≡ at + 2 + 1 = omega arith in
    let sixth : at + 5 ≡ at + 4 + 1 = omega arith in
    let seventh : at + 6 ≡ at + 4 + 2 = omega arith in
    let eighth : at + 7 ≡ at + 4 + 2 + 1 = omega arith in
    omega (arith, ap (slice_index xs) first, ap (slice_index xs) fourth, ap (slice_index xs) sixth, ap (slice_index xs) seventh, ap (slice_index xs) eighth)

-- the first n bytes from a place on, where all are there
pub chunk_all : (xs ys : List ℕ) (at from n : ℕ) → from ≡ min at (length xs) → IsFirstChunk (take (length xs - from) (drop from xs)) ys n
    → ys ≡ filled (numbers_at slice_index 1 xs at) n (replicate n 0)
chunk_all xs ys at from n e first =
    let there : IsFirstChunk (drop from xs) ys n = rw tail_part at first in
    let long : n ≤ length xs - from = omega (arith, there.enough, length-drop from xs) in
    rw there.same
    (sym (filled_all _ n (replicate n 0) (omega (arith, length-replicate {A = ℕ} n 0)) ∙ tabulate_is _ n (take n (drop from xs)) 0 (sym (length-take-le n (drop from xs) there.enough)) (λ k b.
    let place : at + 1 * k ≡ from + k = omega arith in
    rw (get_or-take n (drop from xs) k 0 b, get_or-drop from xs k 0) (ap (slice_index xs) place))))

pub i16_cut : (xs : List ℕ) (place from : ℕ) → from ≡ min place (length xs) → i16_at xs from ≡ i16_at xs place
i16_cut xs = at_cut (pos 0) (i16_at xs) (length xs) (i16_past xs)

pub u32_cut : (xs : List ℕ) (place from : ℕ) → from ≡ min place (length xs) → u32_at xs from ≡ u32_at xs place
u32_cut xs = at_cut 0 (u32_at xs) (length xs) (u32_past xs)

pub i32_cut : (xs : List ℕ) (place from : ℕ) → from ≡ min place (length xs) → i32_at xs from ≡ i32_at xs place
i32_cut xs = at_cut (pos 0) (i32_at xs) (length xs) (i32_past xs)

module _ {A : Type 0} where
  -- ---- a loop that loads a list of numbers: out after n of them
  pub record Loaded (f : ℕ → A) (before : List A) (n : ℕ) (out : List A) : Type 0 where
    pub within : n ≤ length before
    pub long : length out ≡ length before
    pub done : out ≡ filled f n before

  pub loaded_none : (f : ℕ → A) (l : List A) → Loaded f l 0 l
  loaded_none f l = record { within = omega arith; long = refl; done = filled_none f l }

  pub loaded_turn : {f : ℕ → A} {l : List A} {n : ℕ} {out : List A} {v : A} → Loaded f l n out → v ≡ f n → n < length l → Loaded f l (n + 1) (slice_set out n v)
  loaded_turn {f} {l} {n} {out} {v} p e h = record { within = omega arith; long = length-set out n v ∙ p.long; done = filled_turn f n l p.done e h }

  pub loaded_all : {f : ℕ → A} {l : List A} {n : ℕ} {out : List A} → Loaded f l n out → length l ≤ n → out ≡ filled f (length l) l
  loaded_all {f} {l} {n} p h = let e : n ≡ length l = omega (arith, p.within) in p.done ∙ ap (λ (m : ℕ). filled f m l) e

  -- ---- comparison
  module _ (eq : A → A → Bool) (f : ℕ → A) (ys : List A) where
    pub agree_none : agree eq f ys 0 ≡ true
    unfolding agree
    agree_none = refl

    -- an element more that agrees
    pub agree_next : (n : ℕ) (y v : A) → agree eq f ys n ≡ true → slice_get ys n ≡ Some y → v ≡ f n → eq y v ≡ true → agree eq f ys (n + 1) ≡ true
    unfolding agree is_number
    agree_next n y v p q r e = rw (add-one, p, q, ← r, e) refl

    -- an element that does not
    pub agree_not : (k n : ℕ) (y v : A) → k < n → slice_get ys k ≡ Some y → v ≡ f k → eq y v ≡ false → agree eq f ys n ≡ false
    unfolding agree is_number
    agree_not k zero y v h q r e = absurd (omega arith)
    agree_not k (suc n) y v h q r e = by_case (λ l. agree_not k n y v l q r e) (dec_lt k n)
      where
        by_case : (k < n → agree eq f ys n ≡ false) → Dec (k < n) → (agree eq f ys n && is_number eq (f n) (slice_get ys n)) ≡ false
        by_case rec (yes l) = ap (λ (a : Bool). a && is_number eq (f n) (slice_get ys n)) (rec l)
        by_case rec (no m) =
            let same : k ≡ n = omega arith in
            let last : is_number eq (f n) (slice_get ys n) ≡ false = subst (λ (j : ℕ). is_number eq (f j) (slice_get ys j) ≡ false) same (ap (is_number eq (f k)) q ∙ ap (eq y) (sym r) ∙ e) in
            ap (λ (b : Bool). agree eq f ys n && b) last ∙ and-false (agree eq f ys n)

    -- where there is no element
    pub agree_past : (k n : ℕ) → k < n → slice_get ys k ≡ None → agree eq f ys n ≡ false
    unfolding agree is_number
    agree_past k zero h q = absurd (omega arith)
    agree_past k (suc n) h q = by_case (λ l. agree_past k n l q) (dec_lt k n)
      where
        by_case : (k < n → agree eq f ys n ≡ false) → Dec (k < n) → (agree eq f ys n && is_number eq (f n) (slice_get ys n)) ≡ false
        by_case rec (yes l) = ap (λ (a : Bool). a && is_number eq (f n) (slice_get ys n)) (rec l)
        by_case rec (no m) =
            let same : k ≡ n = omega arith in
            let last : is_number eq (f n) (slice_get ys n) ≡ false = subst (λ (j : ℕ). is_number eq (f j) (slice_get ys j) ≡ false) same (ap (is_number eq (f k)) q) in
            ap (λ (b : Bool). agree eq f ys n && b) last ∙ and-false (agree eq f ys n)

    -- all that there are
    pub agree_all : {n m : ℕ} → agree eq f ys n ≡ true → n ≡ m → true ≡ agree eq f ys m
    agree_all p e = sym p ∙ ap (agree eq f ys) e
