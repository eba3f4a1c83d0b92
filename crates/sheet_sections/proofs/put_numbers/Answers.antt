-- `sheet_sections::put_numbers` meets its contract.
use Rattle.std.proofs.Common.{◌≡◌, refl, ◌∙◌, arith, get_or, pos, w32, to_z, of_z}
use Rattle.zint.specs.RuleLaws.{zneeds}
use Rattle.lists.specs.PutLaws.{put_none}
use Rattle.sheet_sections.specs.Sheet.{concat}
use Rattle.sheet_sections.specs.SheetLaws.{put_signed}
use Rattle.sheet_sections.proofs.put_numbers.Goals as goal

pub loop-number-init : goal.loop-number-init
unfolding concat
loop-number-init c = (omega arith, refl, omega arith, put_none c.args.page.now c.args.at)

pub loop-number-preserved : goal.loop-number-preserved
loop-number-preserved c =
    let l = c.loop-number in
    let numbers = c.args.numbers.now in
    let z : to_z w32 (of_z w32 (get_or numbers l.number-index (pos 0))) ≡ get_or numbers l.number-index (pos 0) = search zneeds in
    (omega arith, c.put_i32.auto.page ∙ l.invariant.1, omega arith, put_signed numbers l.number-index (omega arith) l.invariant.3 c.put_i32.ensures z)
