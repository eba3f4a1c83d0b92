-- `sheet_rows::row_of` meets its contract.
use Rattle.std.proofs.Common.{◌≡◌, refl, true, false, sym, ap, ap₂, ◌∙◌, arith, SFits, to_z, of_z, ℤ, pos, ◌≤ℤ◌, Some, w32}
use Rattle.std.proofs.lemmas.Bool.{false≢true, false_from_ne_true}
use Rattle.std.proofs.lemmas.Int.{ints}
use Rattle.zint.specs.ReadLaws.{r_var}
use Rattle.pitch_settings.specs.declared.Settings.{Settings}
use Rattle.pitch_table.specs.Row.{voiced_row, unpitched_row}
use Rattle.silk_tables.specs.Rebuild.{carried}
use Rattle.sheet_rows.specs.RowsLaws.{row_voiced, row_not_carried, row_unpitched, row_none, row_answer}
use Rattle.sheet_rows.proofs.row_of.Goals as goal

-- a pair, as it is read
read : (s : Settings) {index contour : ℤ} → SFits w32 index → SFits w32 contour → carried s.rate s.nb s.complexity (to_z w32 (of_z w32 index)) (to_z w32 (of_z w32 contour)) ≡ carried s.rate s.nb s.complexity index contour
read s i j = ap₂ (carried s.rate s.nb s.complexity) (r_var i).val (r_var j).val

pub returns-in_err-of-in-0 : goal.returns-in_err-of-in-0
returns-in_err-of-in-0 c =
    let a = c.args in
    let s = a.s.settings in
    let v : a.verdict ≡ pos 0 = omega (arith, ints) in
    let e : carried s.rate s.nb s.complexity a.index a.contour ≡ false = false_from_ne_true _ (λ h. absurd (false≢true (c.in_err-of-in-0.ensures.carried.1 (read s c.ranges.index c.ranges.contour ∙ h)))) in
    let h = row_answer s a.verdict a.index a.contour a.correlation (c.from_residual.ensures ∙ sym (row_not_carried s a.index a.contour a.correlation v e)) in
    record { value = h.0; numbers = h.1 }

pub returns-in_ok-of-in-0 : goal.returns-in_ok-of-in-0
returns-in_ok-of-in-0 c =
    let a = c.args in
    let s = a.s.settings in
    let v : a.verdict ≡ pos 0 = omega (arith, ints) in
    let e = c.in_ok-of-in-0.ensures in
    let k : carried s.rate s.nb s.complexity a.index a.contour ≡ true = sym (read s c.ranges.index c.ranges.contour) ∙ e.carried.0 refl in
    let h = row_answer s a.verdict a.index a.contour a.correlation (ap Some (c.row.ensures ∙ (λ t. voiced_row (e.settings t).settings ((e.index ∙ (r_var c.ranges.index).val) t) ((e.contour ∙ (r_var c.ranges.contour).val) t) ((r_var c.ranges.correlation).val t))) ∙ sym (row_voiced s a.index a.contour a.correlation v k)) in
    record { value = h.0; numbers = h.1 }

pub returns-in-1 : goal.returns-in-1
returns-in-1 c =
    let a = c.args in
    let s = a.s.settings in
    let low : pos 1 ≤ℤ a.verdict = omega (arith, ints) in
    let high : a.verdict ≤ℤ pos 2 = omega (arith, ints) in
    let h = row_answer s a.verdict a.index a.contour a.correlation (ap Some (c.unpitched.ensures ∙ ap unpitched_row (r_var c.ranges.verdict).val) ∙ sym (row_unpitched s a.index a.contour a.correlation low high)) in
    record { value = h.0; numbers = h.1 }

pub returns-in_default : goal.returns-in_default
returns-in_default c =
    let a = c.args in
    let h = row_answer a.s.settings a.verdict a.index a.contour a.correlation (sym (row_none a.s.settings a.index a.contour a.correlation (λ e. omega (arith, ints)) (λ e. omega (arith, ints)) (λ e. omega (arith, ints)))) in
    record { value = h.0; numbers = h.1 }

pub returns-in_default-2 : goal.returns-in_default-2
returns-in_default-2 c =
    let a = c.args in
    let h = row_answer a.s.settings a.verdict a.index a.contour a.correlation (sym (row_none a.s.settings a.index a.contour a.correlation (λ e. omega (arith, ints)) (λ e. omega (arith, ints)) (λ e. omega (arith, ints)))) in
    record { value = h.0; numbers = h.1 }
