-- `sheet_bytes::put_u32` meets its contract.
use Rattle.std.proofs.Common.{◌∙◌, arith}
use Rattle.sheet_bytes.specs.BytesLaws.{placed, bytes_4}
use Rattle.sheet_bytes.proofs.put_u32.Goals as goal

pub returns : goal.returns
returns c = placed 4 c.args.n _ _ _ _ (c.copy_from_slice.ensures.after ∙ c.to_le_bytes.ensures ∙ bytes_4 c.args.n) (omega arith) c.requires
