-- Laws of decimal numbers: the last digit, and how many digits there are.
use Rattle.std.specs.Prelude.{◌≡◌, cond, List, [], ◌∷◌, ◌++◌, ℕ, zero, suc, ◌+◌, ◌/◌, ◌%◌, ◌^◌, ◌≤◌, ◌<◌, ltb, length}
use Rattle.std.proofs.Common.{ap, arith, lt-ltb, le-ltb, length-append, Fits}
use Rattle.std.proofs.Math.Decide.{dec_lt}
use Rattle.std.specs.Int.{w32}
use Rattle.pitch_text.specs.Decimal.{digits_to, digits}

-- more room changes nothing
room : (k m n : ℕ) → n < k → k ≤ m → digits_to m n ≡ digits_to k n
unfolding digits_to
room zero m n h l = absurd (omega arith)
room (suc k) zero n h l = absurd (omega arith)
room (suc k) (suc m) n h l = by (λ (g : 10 ≤ n). room k m (n / 10) (omega arith) (omega arith)) (dec_lt n 10)
  where
    by : (10 ≤ n → digits_to m (n / 10) ≡ digits_to k (n / 10)) → Dec (n < 10) → cond (ltb n 10) ((48 + n) ∷ []) (digits_to m (n / 10) ++ ((48 + n % 10) ∷ [])) ≡ cond (ltb n 10) ((48 + n) ∷ []) (digits_to k (n / 10) ++ ((48 + n % 10) ∷ []))
    by rec (yes p) = rw lt-ltb
    by rec (no p) = rw (rec (omega arith))

pub digits_one : (n : ℕ) → n < 10 → digits n ≡ (48 + n) ∷ []
unfolding digits digits_to
digits_one n h = rw lt-ltb

pub digits_more : (n : ℕ) → 10 ≤ n → digits n ≡ digits (n / 10) ++ ((48 + n % 10) ∷ [])
unfolding digits digits_to
digits_more n h = rw le-ltb (ap (λ (l : List ℕ). l ++ ((48 + n % 10) ∷ [])) (room (suc (n / 10)) n (n / 10) (omega arith) (omega arith)))

pub length_one : (n : ℕ) → n < 10 → length (digits n) ≡ 1
length_one n h = rw (digits_one n h)

pub length_more : (n : ℕ) → 10 ≤ n → length (digits n) ≡ length (digits (n / 10)) + 1
length_more n h = rw (digits_more n h) (length-append (digits (n / 10)) ((48 + n % 10) ∷ []))

-- a number below ten to the k has at most k digits
pub digits_few : (k n : ℕ) → n < 10 ^ suc k → length (digits n) ≤ suc k
digits_few zero n h = rw (digits_one n (omega arith)) (omega arith)
digits_few (suc k) n h = by (digits_few k (n / 10) (omega arith)) (dec_lt n 10)
  where
    by : length (digits (n / 10)) ≤ suc k → Dec (n < 10) → length (digits n) ≤ suc (suc k)
    by l (yes p) = rw (digits_one n p) (omega arith)
    by l (no p) = rw (digits_more n (omega arith), length-append (digits (n / 10)) ((48 + n % 10) ∷ [])) (omega arith)

-- a number of 32 bits has at most 10
pub digits_word : (n : ℕ) → Fits w32 n → length (digits n) ≤ 10
digits_word n f = digits_few 9 n (omega (arith, f.fits))

-- a number below ten to the k has the digits that k steps give: its digits by computation
pub digits_short : (k n : ℕ) → n < 10 ^ suc k → digits n ≡ digits_to (suc k) n
unfolding digits_to
digits_short zero n h = rw (digits_one n (omega arith), lt-ltb)
digits_short (suc k) n h = by (digits_short k (n / 10) (omega arith)) (dec_lt n 10)
  where
    by : digits (n / 10) ≡ digits_to (suc k) (n / 10) → Dec (n < 10) → digits n ≡ cond (ltb n 10) ((48 + n) ∷ []) (digits_to (suc k) (n / 10) ++ ((48 + n % 10) ∷ []))
    by e (yes p) = rw (digits_one n p, lt-ltb)
    by e (no p) = let q : 10 ≤ n = omega arith in rw (digits_more n q, le-ltb) (ap (λ (l : List ℕ). l ++ ((48 + n % 10) ∷ [])) e)
