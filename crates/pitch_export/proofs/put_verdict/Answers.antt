-- `pitch_export::put_verdict` meets its contract.
use Rattle.std.proofs.Common.{◌≡◌, sym, ap, ◌∙◌, pos, w32, to_z, of_z}
use Rattle.zint.specs.RuleLaws.{zneeds}
use Rattle.silk_pitch_analysis.specs.Frame.{verdict_numbers}
use Rattle.pitch_export.specs.Export.{lent_numbers}
use Rattle.pitch_export.proofs.put_verdict.Goals as goal

pub returns-in-Voiced : goal.returns-in-Voiced
returns-in-Voiced c =
    let v = c.in-Voiced in
    let x : to_z w32 (of_z w32 v.i) ≡ v.i = search zneeds in
    let y : to_z w32 (of_z w32 v.c) ≡ v.c = search zneeds in
    let z : to_z w32 (of_z w32 v.q) ≡ v.q = search zneeds in
    (λ t. lent_numbers (pos 0) (x t) (y t) (z t)) ∙ ap verdict_numbers (sym v.is)

pub returns-in-Unvoiced : goal.returns-in-Unvoiced
returns-in-Unvoiced c = ap verdict_numbers (sym c.in-Unvoiced.is)

pub returns-in-ZeroDivisor : goal.returns-in-ZeroDivisor
returns-in-ZeroDivisor c = ap verdict_numbers (sym c.in-ZeroDivisor.is)
