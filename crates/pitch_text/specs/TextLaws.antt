-- Laws of text: one part after another (the laws of `Put`, passed on), one field more, the rows of a part of a table, how long a number is, and how large a refusal's.
use Rattle.std.specs.Prelude.{◌≡◌, refl, List, [], ◌∷◌, ◌++◌, ℕ, zero, suc, ◌+◌, ◌*◌, ◌/◌, ◌≤◌, ◌<◌, true, false, ℤ, pos, negsuc, nat_abs, length, get_or, take, drop}
use Rattle.std.proofs.Common.{sym, ap, ap₂, ◌∙◌, append_assoc, append-nil, add-one, arith, ltb-true, take-suc, SFits, get_or-take, length-take-le}
use Rattle.std.proofs.lemmas.Bool.{false≢true}
use Rattle.std.specs.Int.Signed.{lt_z}
use Rattle.std.proofs.lemmas.List.Edits.{sets-eq}
use Rattle.std.specs.Int.{w32}
use Rattle.lists.specs.Fill.{overwritten}
pub use Rattle.lists.specs.PutLaws.{put_then, put_as, put_end, put_one as put_byte, put_next, put_none, put_front}
use Rattle.pitch_text.specs.Decimal.{digits, decimal}
use Rattle.pitch_text.specs.DecimalLaws.{digits_few}
use Rattle.refusals.specs.declared.Refusal.{Refusal}
use Rattle.refusals.specs.declared.Refusal.TheVariants.{Rate, Subframes, Complexity, ShortFrame, ShortSlots, LongTrack, ShortTable, ShortPage, Malformed, HalfInput, ThresholdRange}
use Rattle.refusals.specs.Refusals.{refusal_number}
use Rattle.pitch_table.specs.declared.Row.{Row}
use Rattle.pitch_table.specs.Row.{row_size, row_at}
use Rattle.pitch_text.specs.Text.{Put, fields, values_of, line_text, lines_text}

-- a text that is written from the start on: how many bytes it has, and the whole list, the text laid over its front
pub put_count : {l a xs : List ℕ} {end : ℕ} → Put l 0 xs end a → end ≡ length xs
put_count {xs = xs} p = omega (arith, p.ends)

pub put_over : {l a xs : List ℕ} {end : ℕ} → Put l 0 xs end a → end ≤ length l → a ≡ overwritten xs l
unfolding overwritten
put_over {l} {a} {xs} p h =
    let z : 0 + length xs ≡ length xs = omega arith in
    p.holds ∙ sets-eq xs l 0 (omega (arith, p.ends)) ∙ ap (λ (n : ℕ). xs ++ drop n l) z

fields_append : (xs ys : List ℤ) → fields (xs ++ ys) ≡ fields xs ++ fields ys
unfolding fields
fields_append [] ys = refl
fields_append (x ∷ xs) ys = ap (λ (l : List ℕ). (32 ∷ decimal x) ++ l) (fields_append xs ys) ∙ sym (append_assoc (32 ∷ decimal x) (fields xs) (fields ys))

-- one field more
pub fields_next : (v : List ℤ) (k : ℕ) → k < length v → fields (take (suc k) v) ≡ fields (take k v) ++ (32 ∷ decimal (get_or v k (pos 0)))
unfolding fields
fields_next v k h =
    ap fields (take-suc v k (pos 0) h)
    ∙ fields_append (take k v) (get_or v k (pos 0) ∷ [])
    ∙ ap (λ (l : List ℕ). fields (take k v) ++ l) (append-nil (32 ∷ decimal (get_or v k (pos 0))))

-- a row has seven numbers after its verdict
pub length_values : (r : Row) → length (values_of r) ≡ 7
unfolding values_of
length_values r = refl

-- no line, and one line more
pub lines_none : (nb : ℕ) (rows : ℕ → Row) → [] ≡ lines_text nb rows 0
unfolding lines_text
lines_none nb rows = refl

pub lines_next : (nb : ℕ) (rows : ℕ → Row) (k : ℕ) → lines_text nb rows k ++ line_text k nb (rows k) ≡ lines_text nb rows (k + 1)
unfolding lines_text
lines_next nb rows k = rw add-one

-- rows that agree have the same lines
pub lines_same : (nb : ℕ) (f g : ℕ → Row) (k : ℕ) → ((i : ℕ) → i < k → f i ≡ g i) → lines_text nb f k ≡ lines_text nb g k
unfolding lines_text
lines_same nb f g zero h = refl
lines_same nb f g (suc k) h = ap₂ (λ (l : List ℕ) (r : Row). l ++ line_text k nb r) (lines_same nb f g k (λ i q. h i (omega arith))) (h k (omega arith))

-- the first n rows of a table, taken out of it: its rows, and their lines
pub row_taken : (t : List ℤ) (n i : ℕ) → i < n → row_at (take (n * row_size) t) i ≡ row_at t i
unfolding row_at
row_taken t n i h =
    let part : (j : ℕ) → j < row_size → get_or (take (n * row_size) t) (i * row_size + j) (pos 0) ≡ get_or t (i * row_size + j) (pos 0) = λ j l. get_or-take (n * row_size) t (i * row_size + j) (pos 0) (omega arith) in
    rw (get_or-take (n * row_size) t (i * row_size) (pos 0) (omega arith), part 1 (omega arith), part 2 (omega arith), part 3 (omega arith), part 4 (omega arith), part 5 (omega arith), part 6 (omega arith), part 7 (omega arith))

pub rows_taken : (t : List ℤ) (n : ℕ) → n * row_size ≤ length t → length (take (n * row_size) t) / row_size ≡ n
rows_taken t n h = omega (arith, length-take-le (n * row_size) t h)

pub lines_taken : (nb : ℕ) (t : List ℤ) (n : ℕ) → n * row_size ≤ length t → lines_text nb (row_at (take (n * row_size) t)) (length (take (n * row_size) t) / row_size) ≡ lines_text nb (row_at t) n
lines_taken nb t n h = ap (lines_text nb (row_at (take (n * row_size) t))) (rows_taken t n h) ∙ lines_same nb _ _ n (λ i l. row_taken t n i l)

-- a number of 32 bits has at most 11 bytes
pub decimal_few : (z : ℤ) → SFits w32 z → length (decimal z) ≤ 11
unfolding decimal
decimal_few (pos n) f = omega (arith, digits_few 9 n (omega (arith, f.sfits)))
decimal_few (negsuc n) f = omega (arith, digits_few 9 (suc n) (omega (arith, f.sfits)))

-- the sign of a number that is negative, and none
pub decimal_minus : (z : ℤ) → lt_z z (pos 0) ≡ true → decimal z ≡ 45 ∷ digits (nat_abs z)
unfolding decimal
decimal_minus (pos n) e = absurd (omega (arith, ltb-true n 0 e))
decimal_minus (negsuc n) e = refl

pub decimal_plus : (z : ℤ) → lt_z z (pos 0) ≡ false → decimal z ≡ digits (nat_abs z)
unfolding decimal
decimal_plus (pos n) e = refl
decimal_plus (negsuc n) e = absurd (false≢true (sym e))

-- a refusal's number has two digits at most
pub refusal_small : (r : Refusal) → refusal_number r ≤ 11
refusal_small Rate = omega arith
refusal_small Subframes = omega arith
refusal_small Complexity = omega arith
refusal_small ShortFrame = omega arith
refusal_small ShortSlots = omega arith
refusal_small LongTrack = omega arith
refusal_small ShortTable = omega arith
refusal_small ShortPage = omega arith
refusal_small Malformed = omega arith
refusal_small HalfInput = omega arith
refusal_small ThresholdRange = omega arith
