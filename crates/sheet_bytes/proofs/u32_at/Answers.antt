-- `sheet_bytes::u32_at` meets its contract.
use Rattle.std.proofs.Common.{◌∙◌}
use Rattle.sheet_bytes.specs.BytesLaws.{four_bytes}
use Rattle.sheet_bytes.proofs.u32_at.Goals as goal

pub returns : goal.returns
returns c = c.from_le_bytes.ensures ∙ four_bytes c.args.page.now c.args.at c.requires
