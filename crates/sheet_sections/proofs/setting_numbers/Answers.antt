-- `sheet_sections::setting_numbers` meets its contract.
use Rattle.std.proofs.Common.{◌≡◌, arith, w32, to_z, of_z}
use Rattle.zint.specs.ReadLaws.{r_nat}
use Rattle.zint.specs.RuleLaws.{zneeds}
use Rattle.pitch_settings.specs.SettingsLaws.{held_settings}
use Rattle.sheet_sections.specs.Sheet.{setting_numbers}
use Rattle.sheet_sections.proofs.setting_numbers.Goals as goal

pub overflow_cast-result : goal.overflow_cast-result
overflow_cast-result c = record { sfits = omega (arith, (held_settings _ c.args.settings.held).rate_high) }

pub overflow_cast-result-2 : goal.overflow_cast-result-2
overflow_cast-result-2 c = record { sfits = omega (arith, (held_settings _ c.args.settings.held).nb_high) }

pub overflow_cast-result-3 : goal.overflow_cast-result-3
overflow_cast-result-3 c = record { sfits = omega (arith, (held_settings _ c.args.settings.held).complexity) }

pub returns : goal.returns
unfolding setting_numbers
returns c =
    let x = c.args.settings.settings in
    let a = held_settings x c.args.settings.held in
    let one : to_z w32 (of_z w32 x.thres1) ≡ x.thres1 = search zneeds in
    let two : to_z w32 (of_z w32 x.thres2) ≡ x.thres2 = search zneeds in
    simp ((r_nat w32 x.rate (omega (arith, a.rate_high))).val, (r_nat w32 x.nb (omega (arith, a.nb_high))).val, (r_nat w32 x.complexity (omega (arith, a.complexity))).val, one, two)
