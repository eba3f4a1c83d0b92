-- Little-endian numbers of a list of bytes, and comparison with a list of numbers. A byte past the end is 0. Definitions only; the laws are in `LittleLaws`.
use Rattle.std.specs.Prelude.{ℕ, zero, suc, ◌+◌, ◌*◌, Bool, true, false, ◌&&◌, Option, Some, None, List, ℤ, pos, slice_get, slice_index}
use Rattle.std.specs.Int.{w16, w32}
use Rattle.zint.specs.Wrap.{wrap}

unfoldable pub u16_at : List ℕ → ℕ → ℕ
u16_at xs at = slice_index xs at + slice_index xs (at + 1) * 256

unfoldable pub u32_at : List ℕ → ℕ → ℕ
u32_at xs at = u16_at xs at + u16_at xs (at + 2) * 65536

unfoldable pub u64_at : List ℕ → ℕ → ℕ
u64_at xs at = u32_at xs at + u32_at xs (at + 4) * 4294967296

unfoldable pub i16_at : List ℕ → ℕ → ℤ
i16_at xs at = wrap w16 (pos (u16_at xs at))

unfoldable pub i32_at : List ℕ → ℕ → ℤ
i32_at xs at = wrap w32 (pos (u32_at xs at))

-- number k of those of `size` bytes each, with these values at their places, from `at` on
abbrev pub numbers_at : {A : Type 0} → (List ℕ → ℕ → A) → ℕ → List ℕ → ℕ → ℕ → A
numbers_at value size xs at k = value xs (at + size * k)

-- whether there is an element, and it equals z
unfoldable pub is_number : {A : Type 0} → (A → A → Bool) → A → Option A → Bool
is_number eq z None = false
is_number eq z (Some y) = eq y z

-- whether the first n of ys are f 0, f 1, .., f (n - 1)
unfoldable pub agree : {A : Type 0} → (A → A → Bool) → (ℕ → A) → List A → ℕ → Bool
agree eq f ys zero = true
agree eq f ys (suc n) = agree eq f ys n && is_number eq (f n) (slice_get ys n)
