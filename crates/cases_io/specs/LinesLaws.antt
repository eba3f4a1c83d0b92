-- Laws of the lines that are printed: one kind's line more, and the line for all.
use Rattle.std.specs.Prelude.{◌≡◌, ℕ, ◌+◌, List, [], ◌++◌, length, Option, Result, OnOk, slice_index_or, refl, Ok, Err, decimal, codes}
use Rattle.std.proofs.Common.{add-one, subst}
use Rattle.std.specs.Io.KnownBytes.{Appends}
use Rattle.std.proofs.KnownBytes.{Appends-trans}
use Rattle.cases_io.specs.declared.Tally.{Tally}
use Rattle.cases_io.specs.Counts.{tally, totals_of}
use Rattle.cases_io.specs.Lines.{tally_line, kind_line, kind_lines, report_text}

-- no kind's line
pub kinds_none : (ts : List Tally) → kind_lines ts 0 ≡ []
unfolding kind_lines
kinds_none ts = refl

-- a kind's line, written after those before it
pub kinds_next : (a b c d : Option (List ℕ)) (ts : List Tally) (kind : ℕ) (t : Tally) → Appends a b (kind_lines ts kind) → Appends b c (codes "kind " ++ decimal kind)
    → Appends c d (tally_line (codes ":") t) → t ≡ slice_index_or ts kind (tally 0 0) → Appends a d (kind_lines ts (kind + 1))
unfolding kind_lines
kinds_next a b c d ts kind t p q r e =
    let line : Appends b d (kind_line kind (slice_index_or ts kind (tally 0 0))) = subst (λ (u : Tally). Appends b d (kind_line kind u)) e (Appends-trans b c d _ _ q r) in
    rw add-one (Appends-trans a b d _ _ p line)

-- the line for all, written after those of the kinds
pub report_done : {E : Type 0} {A : Type 0} (r : Result A E) (a b c : Option (List ℕ)) (ts : List Tally) (n : ℕ) (t : Tally) → Appends a b (kind_lines ts n) → n ≡ length ts
    → OnOk r (Appends b c (tally_line (codes "all:") t)) → t ≡ totals_of ts → OnOk r (Appends a c (report_text ts))
unfolding report_text
report_done (Ok x) a b c ts n t p e q f =
    let kinds = subst (λ (m : ℕ). Appends a b (kind_lines ts m)) e p in
    let all = subst (λ (u : Tally). Appends b c (tally_line (codes "all:") u)) f q in
    Appends-trans a b c _ _ kinds all
report_done (Err x) a b c ts n t p e q f = tt
