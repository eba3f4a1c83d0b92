-- `sheet_bytes::put_u16` meets its contract.
use Rattle.std.proofs.Common.{◌∙◌, arith}
use Rattle.sheet_bytes.specs.BytesLaws.{placed, bytes_2}
use Rattle.sheet_bytes.proofs.put_u16.Goals as goal

pub returns : goal.returns
returns c = placed 2 c.args.n _ _ _ _ (c.copy_from_slice.ensures.after ∙ c.to_le_bytes.ensures ∙ bytes_2 c.args.n) (omega arith) c.requires
