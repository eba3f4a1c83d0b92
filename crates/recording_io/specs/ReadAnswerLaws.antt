-- What the answer of one read says of a reader: how many bytes it lost, and when it is at its end.
use Rattle.std.specs.Prelude.{false, true, ◌≡◌, refl, ℕ, ◌<◌, min, List, length, take, Option, Result, Ok, Err, is_err}
use Rattle.std.specs.Result.{result_unwrap_or}
use Rattle.std.specs.Io.{ReadsAtMost}
use Rattle.std.specs.Io.KnownBytes.{Consumes, IsAtEnd, ReadConsumes}
use Rattle.std.proofs.Common.{sym, arith}
use Rattle.std.proofs.KnownBytes.{Consumes-nil, Consumes-kept}
use Rattle.std.proofs.lemmas.Bool.{false≢true}

-- the count of an answer is never more than there is room for
pub read_answer_is : {E : Type 0} (r : Result ℕ E) (buf : List ℕ) → ReadsAtMost r buf → min (result_unwrap_or r 0) (length buf) ≡ result_unwrap_or r 0
read_answer_is (Ok k) buf p = omega (arith, p.0)
read_answer_is (Err x) buf p = omega arith

-- a read that failed brought nothing
pub none_failed : {E : Type 0} (r : Result ℕ E) → is_err r ≡ true → result_unwrap_or r 0 ≡ 0
none_failed (Ok k) t = absurd (false≢true t)
none_failed (Err x) t = refl

-- what the answer counts is what the reader lost
pub answer_bytes : {E : Type 0} (r : Result ℕ E) (a b : Option (List ℕ)) (buf : List ℕ) → ReadsAtMost r buf → ReadConsumes a b r buf → Consumes a b (take (result_unwrap_or r 0) buf)
answer_bytes (Ok k) a b buf p q = q.0
answer_bytes (Err x) a b buf p q = Consumes-kept a a b _ (Consumes-nil a) q

-- and where it counts nothing without having failed, though there was room, the reader is at its end
pub answer_end : {E : Type 0} (r : Result ℕ E) (a b : Option (List ℕ)) (buf : List ℕ) → ReadsAtMost r buf → ReadConsumes a b r buf → is_err r ≡ false → result_unwrap_or r 0 ≡ 0 → 0 < length buf → IsAtEnd b
answer_end (Ok k) a b buf p q f n l = q.1 n l
answer_end (Err x) a b buf p q f n l = absurd (false≢true (sym f))
