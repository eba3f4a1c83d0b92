-- A negative constant as the source writes it: `minus 25727` is -25727. Definition only.
use Rattle.std.specs.Prelude.{ℕ, ℤ, pos, ◌-ℤ◌}

abbrev pub minus : ℕ → ℤ
minus n = pos 0 -ℤ pos n
