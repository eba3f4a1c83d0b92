-- `stage2_correlations::divide` meets its contract.
use Rattle.std.proofs.Common.{Option, Some, ◌≡◌, sym, ap, ap₂, ◌∙◌, ℤ, pos, w16, w32, SFits, to_z, of_z, rules}
use Rattle.zint.specs.ReadLaws.{r_var, r_got, t_above}
use Rattle.zint.specs.Wrap.{wrap}
use Rattle.silk_macros.specs.Divide.{quotient}
use Rattle.stage2_correlations.specs.RowLaws.{ratio_none, ratio_value, ratio_zero}
use Rattle.zint.specs.RuleLaws.{zneeds}
use Rattle.stage2_correlations.proofs.divide.Goals as goal

-- what was divided
divided : {x n : ℤ} {a : Option ℤ} → SFits w32 x → SFits w32 n → a ≡ quotient (to_z w32 (of_z w32 x)) (to_z w32 (of_z w32 n)) (pos 14) → a ≡ quotient x n (pos 14)
divided f g e = e ∙ ap₂ (λ (x y : ℤ). quotient x y (pos 14)) (r_var f).val (r_var g).val

pub returns-in_err-q : goal.returns-in_err-q
returns-in_err-q c =
    let f = c.ranges in
    c.from_residual.ensures
    ∙ ratio_zero _ _ (t_above (pos 0) (r_var f.cross_corr) (search rules)) (sym (divided f.cross_corr f.norm c.silk_div32_varq.ensures.value) ∙ c.in_err-q.was)

pub returns-in_ok-q : goal.returns-in_ok-q
returns-in_ok-q c =
    let f = c.ranges in
    let q = c.in_ok-q.q in
    let same : to_z w32 (of_z w32 q) ≡ q = search zneeds in
    ap Some (r_got w16 c.as_i16.type_inv (c.as_i16.ensures ∙ ap (wrap w16) same)).val
    ∙ ratio_value _ _ q (t_above (pos 0) (r_var f.cross_corr) (search rules)) (sym (divided f.cross_corr f.norm c.silk_div32_varq.ensures.value) ∙ c.in_ok-q.was)

pub returns-else-cross_corr-gt0 : goal.returns-else-cross_corr-gt0
returns-else-cross_corr-gt0 c = ratio_none _ _ (t_above (pos 0) (r_var c.ranges.cross_corr) c.if-cross_corr-gt0.false)
