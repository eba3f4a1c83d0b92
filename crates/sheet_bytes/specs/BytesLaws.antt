-- Laws of little-endian numbers: bytes and number are each other's inverse, and the steps by which the code takes them apart and puts them together.
use Rattle.std.specs.Prelude.{◌≡◌, refl, ℕ, zero, suc, ◌+◌, ◌*◌, ◌/◌, ◌%◌, ◌^◌, ◌≤◌, ◌<◌, ℤ, pos, length, get_or, take, drop, set, List, [], ◌∷◌, ◌++◌}
use Rattle.std.proofs.Common.{sym, ap₂, ◌∙◌, arith, length-drop, drop-cons, drop_at, take_at, get_or-drop, length-take-le, append_assoc, SFits, ap, of_z, to_z}
use Rattle.std.proofs.Math.Arith.{digits_div, digits_mod, mod-mul}
use Rattle.std.proofs.Math.Numerals.{towards_suc}
use Rattle.std.proofs.lemmas.List.Edits.{sets, sets-eq, paste_all}
use Rattle.std.proofs.lemmas.Slice.{put_mid-paste}
use Rattle.std.specs.Int.{w16, to_le_bytes, w32}
use borrow.Rule.Slice.PartMut.{put_mid}
use mir.ValLaws.{of_z_fits}
use Rattle.zint.specs.Wrap.{mod_z, wrap}
use Rattle.zint.specs.WrapLaws.{mod_z_is, of_z_cong, mod_z_lt, mod_z_cong, wrap_cong, wrap_is, cong_sym}
use Rattle.sheet_bytes.specs.Bytes.{Bytes, low_bytes, number, number_at, word, signed, signed_at}

-- ---- bytes and number

pub length_bytes : (k n : ℕ) → length (low_bytes k n) ≡ k
unfolding low_bytes
length_bytes zero n = refl
length_bytes (suc k) n = ap suc (length_bytes k (n / 256))

pub length_signed : (z : ℤ) → length (signed z) ≡ 4
unfolding signed
length_signed z = length_bytes 4 (word z)

pub number_bytes : (k n : ℕ) → n < 256 ^ k → number (low_bytes k n) ≡ n
unfolding low_bytes number
number_bytes zero n h = omega arith
number_bytes (suc k) n h = omega (arith, number_bytes k (n / 256) (omega arith))

tail : (b : ℕ) (p : List ℕ) → Bytes (b ∷ p) → Bytes p
tail b p h i = h (suc i)

number_lt : (p : List ℕ) → Bytes p → number p < 256 ^ length p
unfolding number
number_lt [] h = omega arith
number_lt (b ∷ p) h = let g : b + 256 * number p < 256 ^ suc (length p) = omega (arith, h 0, number_lt p (tail b p h)) in g

bytes_number : (p : List ℕ) → Bytes p → low_bytes (length p) (number p) ≡ p
unfolding low_bytes number
bytes_number [] h = refl
bytes_number (b ∷ p) h =
    let e : b + 256 * number p ≡ number p * 256 + b = omega arith in
    let m : (b + 256 * number p) % 256 ≡ b = ap (λ (n : ℕ). n % 256) e ∙ digits_mod (number p) (h 0) in
    let d : (b + 256 * number p) / 256 ≡ number p = ap (λ (n : ℕ). n / 256) e ∙ digits_div (number p) (h 0) in
    ap₂ (λ (x : ℕ) (l : List ℕ). x ∷ l) m (ap (low_bytes (length p)) d ∙ bytes_number p (tail b p h))

-- ---- the bits of a signed number

pub word_lt : (z : ℤ) → word z < 4294967296
unfolding word
word_lt z = mod_z_lt z 4294967296 (omega arith)

pub signed_word : (z : ℤ) → SFits w32 z → wrap w32 (pos (word z)) ≡ z
unfolding word
signed_word z f = wrap_is w32 (pos (mod_z z 4294967296)) z f (cong_sym (mod_z_cong z 4294967296 (omega arith)))

-- of a number without a sign
pub word_nat : (n : ℕ) → n < 4294967296 → word (pos n) ≡ n
unfolding word mod_z
word_nat n h = omega arith

pub word_signed : (n : ℕ) → n < 4294967296 → word (wrap w32 (pos n)) ≡ n
unfolding word
word_signed n h = mod_z_is (wrap w32 (pos n)) 4294967296 n h (cong_sym (wrap_cong w32 (pos n)))

-- ---- in a page

pub take_bytes : (k : ℕ) (p : List ℕ) → Bytes p → Bytes (take k p)
take_bytes zero p h i = omega arith
take_bytes (suc k) [] h i = omega arith
take_bytes (suc k) (b ∷ p) h zero = h 0
take_bytes (suc k) (b ∷ p) h (suc i) = take_bytes k p (tail b p h) i

pub drop_bytes : (at : ℕ) (p : List ℕ) → Bytes p → Bytes (drop at p)
drop_bytes at p h i = rw (get_or-drop at p i 0) (h (at + i))

module _ (k : ℕ) (p : List ℕ) (at : ℕ) (h : Bytes p) (l : at + k ≤ length p) where
  stretch : Bytes (take k (drop at p))
  stretch = take_bytes k (drop at p) (drop_bytes at p h)

  stretch_length : length (take k (drop at p)) ≡ k
  stretch_length = length-take-le k (drop at p) (rw length-drop (omega arith))

  -- the bytes of the number that stands there are those that stand there
  pub bytes_at : low_bytes k (number_at k p at) ≡ take k (drop at p)
  unfolding number_at
  bytes_at = ap (λ (n : ℕ). low_bytes n (number (take k (drop at p)))) (sym stretch_length) ∙ bytes_number (take k (drop at p)) stretch

  pub number_at_lt : number_at k p at < 256 ^ k
  unfolding number_at
  number_at_lt = rw stretch_length at (number_lt (take k (drop at p)) stretch)

pub signed_bytes_at : (p : List ℕ) (at : ℕ) → Bytes p → at + 4 ≤ length p → signed (signed_at p at) ≡ take 4 (drop at p)
unfolding signed signed_at
signed_bytes_at p at h l = ap (low_bytes 4) (word_signed (number_at 4 p at) (number_at_lt 4 p at h l)) ∙ bytes_at 4 p at h l

pub unsigned_bytes_at : (p : List ℕ) (at : ℕ) → Bytes p → at + 4 ≤ length p → signed (pos (number_at 4 p at)) ≡ take 4 (drop at p)
unfolding signed
unsigned_bytes_at p at h l = ap (low_bytes 4) (word_nat (number_at 4 p at) (number_at_lt 4 p at h l)) ∙ bytes_at 4 p at h l

-- the number whose bytes stand there
module _ (xs ys : List ℕ) (at : ℕ) (e : length xs ≡ at) where
  pub number_at_bytes : (k n : ℕ) → n < 256 ^ k → number_at k (xs ++ (low_bytes k n ++ ys)) at ≡ n
  unfolding number_at
  number_at_bytes k n h =
      ap (λ (l : List ℕ). number (take k l)) (drop_at xs (low_bytes k n ++ ys) at e)
      ∙ ap number (take_at (low_bytes k n) ys k (length_bytes k n))
      ∙ number_bytes k n h

  pub signed_at_bytes : (z : ℤ) → SFits w32 z → signed_at (xs ++ (signed z ++ ys)) at ≡ z
  unfolding signed signed_at
  signed_at_bytes z f = ap (λ (n : ℕ). wrap w32 (pos n)) (number_at_bytes 4 (word z) (word_lt z)) ∙ signed_word z f

-- ---- how the code reads and writes them

number_none : (p : List ℕ) (at : ℕ) → number_at 0 p at ≡ 0
unfolding number_at number
number_none p at = refl

number_next : (k : ℕ) (p : List ℕ) (at next : ℕ) → next ≡ suc at → at < length p → number_at (suc k) p at ≡ get_or p at 0 + 256 * number_at k p next
unfolding number_at number
number_next k p at next e h =
    ap (λ (l : List ℕ). number (take (suc k) l)) (drop-cons p at 0 h) ∙ ap (λ (n : ℕ). get_or p at 0 + 256 * number (take k (drop n p))) (sym e)

-- the values of two and of four bytes, as std adds them up
pub number_2 : (p : List ℕ) (at : ℕ) → at + 2 ≤ length p → get_or p at 0 + get_or p (at + 1) 0 * 256 ≡ number_at 2 p at
number_2 p at h =
    omega (arith, number_next 1 p at (at + 1) (omega arith) (omega arith), number_next 0 p (at + 1) (at + 2) (omega arith) (omega arith), number_none p (at + 2))

pub number_4 : (p : List ℕ) (at : ℕ) → at + 4 ≤ length p → number_at 2 p at + number_at 2 p (at + 2) * 65536 ≡ number_at 4 p at
number_4 p at h =
    omega (
      arith,
      number_2 p at (omega arith),
      number_next 3 p at (at + 1) (omega arith) (omega arith),
      number_next 2 p (at + 1) (at + 2) (omega arith) (omega arith),
    )

pub four_bytes : (p : List ℕ) (at : ℕ) → at + 4 ≤ length p
    → get_or p at 0 + get_or p (at + 1) 0 * 256 + get_or p (at + 2) 0 * 65536 + get_or p (at + 3) 0 * 16777216 ≡ number_at 4 p at
four_bytes p at h =
    omega (
      arith,
      number_4 p at h,
      number_2 p at (omega arith),
      number_next 1 p (at + 2) (at + 3) (omega arith) (omega arith),
      number_next 0 p (at + 3) (at + 4) (omega arith) (omega arith),
      number_none p (at + 4),
    )

-- the bytes of a number, as std takes them apart
pub bytes_2 : (n : ℕ) → to_le_bytes w16 n ≡ low_bytes 2 n
unfolding low_bytes
bytes_2 n = refl

pub bytes_4 : (n : ℕ) → to_le_bytes w32 n ≡ low_bytes 4 n
unfolding low_bytes
bytes_4 n =
    let a : n / 65536 ≡ n / 256 / 256 = omega arith in
    let b : n / 16777216 ≡ n / 256 / 256 / 256 = omega arith in
    rw (a, b)

-- the two and the four lowest bytes, written one by one
small : (x : ℕ) → x < 256 → x % 256 ≡ x
small x h = omega arith

pub put_2 : (p : List ℕ) (at n : ℕ) → n < 65536 → set (set p at (n % 256)) (at + 1) (n / 256) ≡ sets p at (low_bytes 2 n)
unfolding low_bytes
put_2 p at n h =
    simp towards_suc (ap (set (set p at (n % 256)) (suc at)) (sym (small (n / 256) (omega arith))))

pub put_4 : (p : List ℕ) (at n : ℕ) → n < 4294967296 → sets (sets p at (low_bytes 2 (n % 65536))) (at + 2) (low_bytes 2 (n / 65536)) ≡ sets p at (low_bytes 4 n)
unfolding low_bytes
put_4 p at n h =
    let a : n % 65536 % 256 ≡ n % 256 = omega arith in
    let m : n % 65536 ≡ n / 256 % 256 * 256 + n % 256 = mod-mul n (omega arith) (omega arith) in
    let s : n % 65536 / 256 ≡ n / 256 % 256 = ap (λ (x : ℕ). x / 256) m ∙ digits_div (n / 256 % 256) (omega arith) in
    let b : n % 65536 / 256 % 256 ≡ n / 256 % 256 = ap (λ (x : ℕ). x % 256) s ∙ small (n / 256 % 256) (omega arith) in
    let c : n / 65536 ≡ n / 256 / 256 = omega arith in
    simp (towards_suc, a, b, c)

-- the k lowest bytes of a number, written over as many of the page
pub placed : (k n : ℕ) (p bytes : List ℕ) (at width : ℕ) → bytes ≡ low_bytes k n → width ≡ k → at + k ≤ length p → put_mid at width p bytes ≡ sets p at (low_bytes k n)
placed k n p bytes at width e w h =
    let b = low_bytes k n in
    let l : k ≡ length b = sym (length_bytes k n) in
    put_mid-paste at width p bytes b k e (sym w) l
    ∙ paste_all p at b k l
    ∙ sym (sets-eq b p at (omega arith) ∙ append_assoc (take at p) b _ ∙ ap (λ (m : ℕ). take at p ++ (b ++ drop (at + m) p)) (sym l))

-- the bits of a signed number, and the number of these bits
pub word_is : (z : ℤ) → SFits w32 z → of_z w32 z ≡ word z
unfolding word
word_is z f = sym (mod_z_is z 4294967296 (of_z w32 z) (of_z_fits w32 z f).fits (of_z_cong w32 z f))

pub signed_is : (n : ℕ) → n < 4294967296 → to_z w32 n ≡ wrap w32 (pos n)
unfolding wrap mod_z
signed_is n h = let e : n % 4294967296 ≡ n = omega arith in ap (to_z w32) (sym e)
