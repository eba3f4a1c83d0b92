-- `sheet_bytes::i32_at` meets its contract.
use Rattle.std.proofs.Common.{◌∙◌, ℕ, pos, ap, rules, w32}
use Rattle.std.proofs.lemmas.Int.{to_z-of_z}
use Rattle.zint.specs.Wrap.{wrap}
use Rattle.sheet_bytes.specs.Bytes.{signed_at}
use Rattle.sheet_bytes.specs.BytesLaws.{signed_is}
use Rattle.sheet_bytes.proofs.i32_at.Goals as goal

pub returns : goal.returns
unfolding signed_at
returns c =
    to_z-of_z w32 c.cast_signed.result (search rules)
    ∙ c.cast_signed.ensures
    ∙ signed_is c.u32_at.result c.u32_at.type_inv
    ∙ ap (λ (n : ℕ). wrap w32 (pos n)) c.u32_at.ensures
