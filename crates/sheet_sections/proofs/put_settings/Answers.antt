-- `sheet_sections::put_settings` meets its contract.
use Rattle.std.proofs.Common.{refl, ap, List, map, ℤ}
use Rattle.lists.specs.PutLaws.{put_then, put_as}
use Rattle.sheet_bytes.specs.Bytes.{signed}
use Rattle.sheet_sections.specs.Sheet.{setting_numbers, concat, section}
use Rattle.sheet_sections.specs.SheetLaws.{put_word}
use Rattle.sheet_sections.proofs.put_settings.Goals as goal

pub returns : goal.returns
unfolding section setting_numbers
returns c =
    put_then (put_word c.put_u32.ensures refl)
    (put_as c.put_numbers.ensures (ap (λ (zs : List ℤ). concat (map signed zs)) c.setting_numbers.ensures))
