-- `sheet_bytes::u16_at` meets its contract.
use Rattle.std.proofs.Common.{◌∙◌}
use Rattle.sheet_bytes.specs.BytesLaws.{number_2}
use Rattle.sheet_bytes.proofs.u16_at.Goals as goal

pub returns : goal.returns
returns c = c.from_le_bytes.ensures ∙ number_2 c.args.page.now c.args.at c.requires
