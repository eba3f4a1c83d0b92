-- Laws of replaying a list: one case more, and what was printed at its end.
use Rattle.std.specs.Prelude.{◌≡◌, ℕ, ◌<◌, Bool, Option, List, length, take, drop}
use Rattle.std.proofs.Common.{sym, ◌∙◌, ap, subst}
use Rattle.std.proofs.lemmas.List.{nil_from_length}
use Rattle.cases_io.specs.declared.Tally.{Tally}
use Rattle.cases_io.specs.Replay.{Replayed, at_end, case_more, case_size, tally_answered}

module _ {size : List ℕ → ℕ → Type 0} {answer : List ℕ → Option Bool → Type 0} where
  -- one case more, in the code's own names
  pub replayed_more : {t s u : Tally} {rest after part : List ℕ} (n m : ℕ) (o : Option Bool) → 0 < length rest → size rest n → answer part o → m ≡ case_size n rest
      → part ≡ take m rest → after ≡ drop m rest → s ≡ tally_answered t o → Replayed size answer s after u → Replayed size answer t rest u
  replayed_more {t} {s} {u} {rest} {after} {part} n m o h sized answered e p q f r =
      let part_is : part ≡ take (case_size n rest) rest = p ∙ ap (λ (k : ℕ). take k rest) e in
      let after_is : after ≡ drop (case_size n rest) rest = q ∙ ap (λ (k : ℕ). drop k rest) e in
      let told : answer (take (case_size n rest) rest) o = subst (λ (l : List ℕ). answer l o) part_is answered in
      let on : Replayed size answer s (drop (case_size n rest) rest) u = subst (λ (l : List ℕ). Replayed size answer s l u) after_is r in
      case_more n o h sized told (subst (λ (x : Tally). Replayed size answer x (drop (case_size n rest) rest) u) f on)

  -- nothing is left
  pub replayed_none : (t : Tally) (rest : List ℕ) → length rest ≡ 0 → Replayed size answer t rest t
  replayed_none t rest e = subst (λ (l : List ℕ). Replayed size answer t l t) (sym (nil_from_length rest e)) at_end
