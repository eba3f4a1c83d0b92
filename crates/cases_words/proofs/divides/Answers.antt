-- `cases_words::divides` meets its contract.
use Rattle.std.proofs.Common.{not, ◌≡◌, sym, ap, ◌∙◌, subst, eq-eqb, ℤ, negsuc, w32, SFits, to_z, of_z}
use Rattle.std.proofs.Math.Bool.{false≢true}
use Rattle.std.specs.Int.Signed.{quot_z}
use Rattle.zint.specs.ReadLaws.{r_var}
use Rattle.cases_words.specs.QuotientLaws.{quotient_fits, negated_fits}
use Rattle.cases_words.proofs.divides.Goals as goal

pub returns-then-b-eq0 : goal.returns-then-b-eq0
returns-then-b-eq0 c = λ e. absurd (false≢true e)

pub returns-then-b-eqminus1 : goal.returns-then-b-eqminus1
returns-then-b-eqminus1 c = λ e.
    let a = c.args.a in
    let b : c.args.b ≡ negsuc 0 = sym (r_var c.ranges.b).val ∙ ap (to_z w32) c.if-b-eqminus1.true in
    let least : a ≡ negsuc 2147483647 → ⊥ = λ m. false≢true (sym (ap not (eq-eqb (of_z w32 a) 2147483648 (ap (of_z w32) m))) ∙ e) in
    (λ z. c.if-b-eq0.false (ap (of_z w32) z), subst (λ (x : ℤ). SFits w32 (quot_z a x)) (sym b) (negated_fits a c.ranges.a least))

pub returns : goal.returns
returns c = λ e. (
  λ z. c.if-b-eq0.false (ap (of_z w32) z),
  quotient_fits c.args.a c.args.b c.ranges.a (λ z. c.if-b-eqminus1.false (ap (of_z w32) z)),
)
