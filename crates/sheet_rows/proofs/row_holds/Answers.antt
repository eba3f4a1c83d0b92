-- `sheet_rows::row_holds` meets its contract: the rows are compared number for number.
use Rattle.std.proofs.Common.{rules, sym, ap, ◌∙◌, SFits, ◌≡◌, refl, ◌&&◌, ℤ, Option, Some, None, w32, int_eq}
use Rattle.std.specs.Option.{option_eq}
use Rattle.std.proofs.lemmas.Bool.Decides.{same_from_decides, Decides-int_eq}
use Rattle.zint.specs.Equal.{eq_z}
use Rattle.zint.specs.EqualLaws.{eq_z_yes, eq_z_true}
use Rattle.zint.specs.ReadLaws.{r_var}
use Rattle.pitch_table.specs.declared.Row.{Row}
use Rattle.pitch_table.specs.contracts.RowPartialEq.TheImpl.{ghosts}
use Rattle.sheet_rows.specs.Rows.{row_of, same_row, same_as, row_holds}
use Rattle.sheet_rows.proofs.row_holds.Goals as goal

-- the test by which the code compares two numbers
same_number : (x y : ℤ) → int_eq x y ≡ eq_z y x
same_number x y = same_from_decides (int_eq x y) (eq_z y x) (Decides-int_eq x y) (λ h. sym (eq_z_true y x h), λ e. eq_z_yes (sym e))

same : (r : Row) (q : Option Row) → option_eq ghosts.eq q (Some r) ≡ same_as r q
unfolding same_row
same r (Some q) = λ i.
    same_number q.verdict r.verdict i && (same_number q.index r.index i && (same_number q.contour r.contour i && (same_number q.correlation r.correlation i
    && (same_number q.lag0 r.lag0 i && (same_number q.lag1 r.lag1 i && (same_number q.lag2 r.lag2 i && same_number q.lag3 r.lag3 i))))))
same r None = refl

pub returns : goal.returns
unfolding row_holds
returns c =
    let r = c.args.r in
    let v : SFits w32 r.verdict = search rules in
    let i : SFits w32 r.index = search rules in
    let j : SFits w32 r.contour = search rules in
    let k : SFits w32 r.correlation = search rules in
    c.eq.ensures ∙ same r c.row_of.result ∙ ap (same_as r) (c.row_of.ensures.value ∙ (λ t. row_of c.args.s.settings ((r_var v).val t) ((r_var i).val t) ((r_var j).val t) ((r_var k).val t)))
