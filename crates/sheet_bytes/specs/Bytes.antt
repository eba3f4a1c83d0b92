-- Little-endian numbers (docs/SCOPE.md, Sheet: all little-endian). Definitions only; the laws are in `BytesLaws`.
use Rattle.std.specs.Prelude.{List, [], ◌∷◌, ℕ, zero, suc, ◌+◌, ◌*◌, ◌/◌, ◌%◌, ◌^◌, ◌<◌, ℤ, pos, get_or, take, drop}
use Rattle.std.specs.Int.{w32}
use Rattle.zint.specs.Wrap.{mod_z, wrap}

-- each element is a byte
abbrev pub Bytes : List ℕ → Type 0
Bytes p = (i : ℕ) → get_or p i 0 < 256

-- the k lowest bytes of n, the lowest first
unfoldable pub low_bytes : ℕ → ℕ → List ℕ
low_bytes zero n = []
low_bytes (suc k) n = n % 256 ∷ low_bytes k (n / 256)

-- the number whose bytes these are, and the number in the k bytes of p from `at` on
unfoldable pub number : List ℕ → ℕ
number [] = 0
number (b ∷ p) = b + 256 * number p

unfoldable pub number_at : ℕ → List ℕ → ℕ → ℕ
number_at k p at = number (take k (drop at p))

-- a signed number of 32 bits: its bits, two's complement, as a number; its four bytes; and the number in the four bytes of p from `at` on
unfoldable pub word : ℤ → ℕ
word z = mod_z z (2 ^ 32)

unfoldable pub signed : ℤ → List ℕ
signed z = low_bytes 4 (word z)

unfoldable pub signed_at : List ℕ → ℕ → ℤ
signed_at p at = wrap w32 (pos (number_at 4 p at))
