-- What the bytes of a program's input say (docs/SCOPE.md, Programs): settings and samples, little-endian. Definitions only.
use Rattle.std.specs.Prelude.{List, ℕ, ◌+◌, ◌*◌, ℤ, pos, get_or}
use Rattle.std.specs.Int.{w16}
use Rattle.zint.specs.Wrap.{wrap}
use Rattle.lists.specs.Fill.{tabulate}
use Rattle.sheet_bytes.specs.Bytes.{number_at, signed_at}
use Rattle.pitch_settings.specs.declared.Settings.{Settings}

-- the bytes of the settings, with which an input begins
abbrev pub head_size : ℕ
head_size = 11

-- rate, nb, complexity, a byte each; thres1, thres2, four signed bytes each
unfoldable pub input_settings : List ℕ → Settings
input_settings b = record { rate = get_or b 0 0; nb = get_or b 1 0; complexity = get_or b 2 0; thres1 = signed_at b 3; thres2 = signed_at b 7 }

-- a sample: two signed bytes
unfoldable pub sample_at : List ℕ → ℕ → ℤ
sample_at b at = wrap w16 (pos (number_at 2 b at))

-- n samples from the byte `at` on
unfoldable pub samples_from : List ℕ → ℕ → ℕ → List ℤ
samples_from b at n = tabulate (λ (k : ℕ). sample_at b (at + 2 * k)) n
