-- What replaying cases prints. Definitions only.
use Rattle.std.specs.Prelude.{ℕ, zero, suc, ◌++◌, ◌∷◌, [], List, length, slice_index_or, decimal, codes}
use Rattle.cases_io.specs.declared.Tally.{Tally}
use Rattle.cases_io.specs.Counts.{tally, totals_of}

-- the line `name agreed of total`
abbrev pub tally_line : List ℕ → Tally → List ℕ
tally_line name t = name ++ codes " " ++ decimal t.agreed ++ codes " of " ++ decimal t.total ++ 10 ∷ []

-- the line of a kind
abbrev pub kind_line : ℕ → Tally → List ℕ
kind_line kind t = codes "kind " ++ decimal kind ++ tally_line (codes ":") t

-- the lines of the first n kinds
unfoldable pub kind_lines : List Tally → ℕ → List ℕ
kind_lines ts zero = []
kind_lines ts (suc n) = kind_lines ts n ++ kind_line n (slice_index_or ts n (tally 0 0))

-- a line for each kind, and one for all
unfoldable pub report_text : List Tally → List ℕ
report_text ts = kind_lines ts (length ts) ++ tally_line (codes "all:") (totals_of ts)
