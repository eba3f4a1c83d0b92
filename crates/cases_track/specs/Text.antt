-- When the text of an input is the one that a body tells: the body has the count of the zeros after the input and the text's length (4 bytes each), the text, then the input. Definitions only.
use Rattle.std.specs.Prelude.{Bool, true, List, ◌++◌, ◌≡◌, ℕ, ◌+◌, ◌-◌, ◌≤◌, min, length, take, drop}
use Rattle.cases_io.specs.Little.{u32_at}
use Rattle.pitch_recording.specs.Recording.{recording_bytes}
use Rattle.recording_head.specs.declared.Head.{Head}
use Rattle.track_text.specs.Program.{longest_text, track_text}

-- whether: a test that is true exactly where a fact holds
pub record Tells (r : Bool) (fact : Type 0) : Type 0 where
  pub only : r ≡ true → fact
  pub where_so : fact → r ≡ true

-- where the input begins: after the text
abbrev pub from : List ℕ → ℕ
from body = 8 + u32_at body 4

-- the bytes of an input of a body of `size` bytes, its zeros among them; and those that the program has room for
abbrev pub whole : List ℕ → ℕ → ℕ
whole body size = size - from body + u32_at body 0

abbrev pub held : List ℕ → ℕ → ℕ
held body size = min (whole body size) recording_bytes

-- the text is within its room and the body, and it is the text of the input with this head, whatever the bytes are that the program only counts
pub record TextAgrees (head : Head) (body : List ℕ) (size : ℕ) : Type 0 where
  pub fits : u32_at body 4 ≤ longest_text
  pub inside : from body ≤ size
  pub text : (rest : List ℕ) → length rest ≡ whole body size - held body size
      → track_text head (take (held body size) (drop (from body) body) ++ rest) ≡ take (u32_at body 4) (drop 8 body)
