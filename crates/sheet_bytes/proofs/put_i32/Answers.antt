-- `sheet_bytes::put_i32` meets its contract.
use Rattle.std.proofs.Common.{◌∙◌, ℕ, ap, w32, of_z}
use Rattle.std.proofs.lemmas.Int.{to_z-of_z}
use Rattle.std.proofs.lemmas.List.Edits.{sets}
use Rattle.sheet_bytes.specs.Bytes.{low_bytes, signed}
use Rattle.sheet_bytes.specs.BytesLaws.{word_is}
use Rattle.sheet_bytes.proofs.put_i32.Goals as goal

pub returns : goal.returns
unfolding signed
returns c =
    let z = c.args.z in
    let bits = c.cast_unsigned.ensures ∙ ap (of_z w32) (to_z-of_z w32 z c.ranges.z) ∙ word_is z c.ranges.z in
    c.put_u32.ensures ∙ ap (λ (n : ℕ). sets c.args.page.now c.args.at (low_bytes 4 n)) bits
