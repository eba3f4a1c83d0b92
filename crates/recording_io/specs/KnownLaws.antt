-- What the bytes were that a reader had: those in the buffer, those that were counted behind them, and those that it has left.
use Rattle.std.specs.Prelude.{◌≡◌, ℕ, ◌+◌, ◌<◌, List, [], ◌++◌, length, Option, None, Some, IfSome, refl}
use Rattle.std.specs.Io.KnownBytes.{Consumes, IsAtEnd}
use Rattle.std.proofs.Common.{sym, ap, ◌∙◌, subst, append_assoc, append-nil, length-append, arith}
use Rattle.recording_io.specs.ReadAnswer.{most_reads}

-- what holds of those, whichever are left, holds of the known bytes
pub known_bytes : (old new : Option (List ℕ)) (front rest : List ℕ) (P : List ℕ → Type 0) → Consumes old new (front ++ rest) → ((ys : List ℕ) → new ≡ Some ys → P (front ++ (rest ++ ys))) → IfSome old P
known_bytes None new front rest P p f = tt
known_bytes (Some xs) None front rest P p f = absurd p
known_bytes (Some xs) (Some ys) front rest P p f = subst P (sym (p ∙ append_assoc front rest ys)) (f ys refl)

-- fewer bytes than the reads are that may count them: then none is left
pub known_input : (old new : Option (List ℕ)) (front rest : List ℕ) (more : ℕ) (P : List ℕ → Type 0) → length rest ≡ more → Consumes old new (front ++ rest) → (more < most_reads → IsAtEnd new) → P (front ++ rest)
    → IfSome old (λ (xs : List ℕ). length xs < most_reads → P xs)
known_input old new front rest more P e p end q =
    known_bytes old new front rest (λ (xs : List ℕ). length xs < most_reads → P xs) p
    (λ ys at_ys few.
    let long : length (front ++ (rest ++ ys)) ≡ length front + (length rest + length ys) = length-append front (rest ++ ys) ∙ ap (λ (n : ℕ). length front + n) (length-append rest ys) in
    let none : ys ≡ [] = subst IsAtEnd at_ys (end (omega arith)) in
    subst (λ (zs : List ℕ). P (front ++ zs)) (sym (ap (λ (zs : List ℕ). rest ++ zs) none ∙ append-nil rest)) q)
