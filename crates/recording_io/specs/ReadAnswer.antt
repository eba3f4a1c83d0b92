-- What the answer of reading says, whether a read failed or not. Definitions only.
use Rattle.std.specs.Prelude.{ℕ, Result, Ok, Err}
use Rattle.recording_io.specs.declared.Unread.{Unread}

-- the reads after which the rest of an input is no longer counted: 2 to the 40
abbrev pub most_reads : ℕ
most_reads = 1099511627776

-- what was read: all that the input had, or what came before a read that failed
abbrev pub so_far : {T : Type 0} → Result T (Unread T) → T
so_far (Ok read) = read
so_far (Err unread) = unread.so_far
