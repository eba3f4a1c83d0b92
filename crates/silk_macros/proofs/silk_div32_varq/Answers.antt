-- `silk_macros::silk_div32_varq` meets its contract.
use Rattle.std.proofs.Common.{◌≡◌, sym, ap, ◌∙◌, Bool, cond, [], ◌∷◌, ℤ, pos, ◌≤ℤ◌, ◌<ℤ◌, Option, Some, None, w32, to_z, of_z}
use Rattle.answers.specs.Answer.{answer_numbers}
use Rattle.zint.specs.EqualLaws.{eq_z_yes, eq_z_no}
use Rattle.zint.specs.ReadLaws.{r_var, r_call3, r_holds}
use Rattle.silk_macros.specs.Divide.{div32_varq, quotient, quotient_numbers, quotient_number}
use Rattle.silk_macros.specs.DivideLaws.{quotient_in_numbers}
use Rattle.silk_macros.proofs.silk_div32_varq.Goals as goal

pub div32_varq_steps-requires : goal.div32_varq_steps-requires
div32_varq_steps-requires c = (
  r_holds (λ (x : ℤ). x ≡ pos 0 → ⊥) (r_var c.ranges.b32) (λ e. c.if-b32-eq0.false (ap (of_z w32) e)),
  r_holds (λ (x : ℤ). pos 0 ≤ℤ x) (r_var c.ranges.qres) c.requires.0,
  r_holds (λ (x : ℤ). x <ℤ pos 60) (r_var c.ranges.qres) c.requires.1,
)

-- the answer in numbers, of the answer
in_numbers : {x : Option ℤ} (a b q : ℤ) → x ≡ quotient a b q → quotient_numbers x ≡ answer_numbers (quotient_number b) (div32_varq a b q ∷ [])
in_numbers a b q e = ap quotient_numbers e ∙ quotient_in_numbers a b q

said : (c : goal.Then-b32-eq0) → None ≡ quotient c.args.a32 c.args.b32 c.args.qres
unfolding quotient
said c =
    let z : c.args.b32 ≡ pos 0 = sym (r_var c.ranges.b32).val ∙ ap (to_z w32) c.if-b32-eq0.true in
    sym (ap (λ (t : Bool). cond t None (Some (div32_varq c.args.a32 c.args.b32 c.args.qres))) (eq_z_yes z))

pub returns-then-b32-eq0 : goal.returns-then-b32-eq0
returns-then-b32-eq0 c = record { value = said c; numbers = in_numbers c.args.a32 c.args.b32 c.args.qres (said c) }

value : (c : goal.After-div32_varq_steps) → Some (to_z w32 (of_z w32 c.div32_varq_steps.result)) ≡ quotient c.args.a32 c.args.b32 c.args.qres
unfolding quotient
value c =
    let v = (r_call3 w32 div32_varq c.div32_varq_steps.type_inv (r_var c.ranges.a32) (r_var c.ranges.b32) (r_var c.ranges.qres) c.div32_varq_steps.ensures).val in
    ap Some v
    ∙ sym (ap (λ (t : Bool). cond t None (Some (div32_varq c.args.a32 c.args.b32 c.args.qres))) (eq_z_no (λ e. c.if-b32-eq0.false (ap (of_z w32) e))))

pub returns-else-b32-eq0 : goal.returns-else-b32-eq0
returns-else-b32-eq0 c = record { value = value c; numbers = in_numbers c.args.a32 c.args.b32 c.args.qres (value c) }
