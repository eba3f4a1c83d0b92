-- The program `frames`: what it prints, as a function of all bytes of its input, and what reading and printing one record does. Definitions only.
use Rattle.std.specs.Prelude.{cond, ◌≡◌, List, [], ◌++◌, ℕ, zero, suc, ◌<◌, ◌≤◌, eqb, length, take, drop, Option, Some}
use Rattle.std.specs.Io.KnownBytes.{Appends}
use Rattle.frames_text.specs.Frames.{record_head, record_length, record_no, record_text}

-- the record that an input begins with: as many bytes as its head asks for, or what there is of them
unfoldable pub record_of : List ℕ → List ℕ
record_of xs = take (record_length (take record_head xs)) xs

-- what is printed for n records at most: nothing at the input's end, and else a record's line, and those of what follows it. A record that is cut or refused is the last
unfoldable pub frames_output : ℕ → List ℕ → List ℕ
frames_output zero xs = []
frames_output (suc n) xs =
    cond (eqb (length xs) 0) []
    (record_text (record_of xs) ++ cond (eqb (record_no (record_of xs)) 0) (frames_output n (drop (length (record_of xs)) xs)) [])

-- these bytes are the record that xs begins with, none only where xs has none, and the input has what follows it
pub record RecordRead (xs bytes : List ℕ) (left : Option (List ℕ)) : Type 0 where
  pub bytes_are : bytes ≡ record_of xs
  pub within : length bytes ≤ length xs
  pub none : length bytes ≡ 0 → length xs ≡ 0
  pub rest : left ≡ Some (drop (length (record_of xs)) xs)

-- the line of an accepted record was printed, and the input has what follows the record
pub record LinePrinted (xs : List ℕ) (old new left : Option (List ℕ)) : Type 0 where
  pub some : 0 < length xs
  pub accepted : record_no (record_of xs) ≡ 0
  pub line : Appends old new (record_text (record_of xs))
  pub rest : left ≡ Some (drop (length (record_of xs)) xs)

-- all was printed that is to be printed for xs, however many records more may be read
pub record AllPrinted (xs : List ℕ) (old new : Option (List ℕ)) : Type 0 where
  pub lines : (n : ℕ) → Appends old new (frames_output (suc n) xs)

-- the front of a whole output was printed: the lines of n records at most are left to print, of what the input has
pub record FrontPrinted (n : ℕ) (whole : List ℕ) (old new left : Option (List ℕ)) : Type 0 where
  pub front : List ℕ
  pub xs : List ℕ
  pub has : left ≡ Some xs
  pub printed : Appends old new front
  pub behind : whole ≡ front ++ frames_output n xs
