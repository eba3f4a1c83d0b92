-- `pitch_input::sample_at` meets its contract.
use Rattle.std.proofs.Common.{◌≡◌, ℕ, ◌<◌, ◌%◌, pos, ap, sym, ◌∙◌, arith, rules, w16, to_z}
use Rattle.std.proofs.lemmas.Int.{to_z-of_z}
use Rattle.zint.specs.Wrap.{wrap, mod_z}
use Rattle.pitch_input.specs.Input.{sample_at}
use Rattle.pitch_input.proofs.sample_at.Goals as goal

signed : (n : ℕ) → n < 65536 → to_z w16 n ≡ wrap w16 (pos n)
unfolding wrap mod_z
signed n h = let e : n % 65536 ≡ n = omega arith in ap (to_z w16) (sym e)

pub returns : goal.returns
unfolding sample_at
returns c =
    to_z-of_z w16 c.cast_signed.result (search rules)
    ∙ c.cast_signed.ensures
    ∙ signed c.u16_at.result c.u16_at.type_inv
    ∙ ap (λ (n : ℕ). wrap w16 (pos n)) c.u16_at.ensures
