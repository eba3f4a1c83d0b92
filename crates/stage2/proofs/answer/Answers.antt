-- `stage2::answer` meets its contract.
use Rattle.std.proofs.Common.{Option, Some, None, Ok, Err, ok_or, refl, ◌≡◌, sym, ap, ap₂, ◌∙◌, subst, ℕ, ◌≤◌, arith, ℤ, pos, nat_abs, ◌*ℤ◌, w32, SFits, to_z, of_z}
use Rattle.std.proofs.lemmas.Result.{err_from_is_err_and}
use Rattle.std.specs.Int.Signed.{quot_z}
use Rattle.answers.specs.declared.NoPitch.{NoPitch}
use Rattle.answers.specs.declared.NoPitch.TheVariants.{Unvoiced as HasNone}
use Rattle.stage2.specs.declared.BestLag.{BestLag}
use Rattle.zint.specs.BoundLaws.{abs_fits, abs_prod}
use Rattle.zint.specs.WrapLaws.{wrap_id}
use Rattle.zint.specs.ReadLaws.{r_nat, r_got, r_call1}
use Rattle.zint.specs.Wrap.{wrap}
use Rattle.stage2.specs.Stage2.{Winner}
use Rattle.stage2.specs.ScoreLaws.{quot_le}
use Rattle.stage2.specs.Search.{sum_of, best_answer}
use Rattle.zint.specs.RuleLaws.{zneeds}
use Rattle.stage2.proofs.answer.Goals as goal

shared : (z : ℤ) (n : ℕ) → nat_abs z ≤ 131072 → 2 ≤ n → nat_abs (quot_z z (pos n)) ≤ 65536
shared z n h k = quot_le z n 65536 (omega arith) (omega arith)

-- what wins, or that nothing does
none_won : (o : Option BestLag) {x : NoPitch} → ok_or o HasNone ≡ Err x → (o ≡ None) × (x ≡ HasNone)
none_won None e = (refl, cc)
none_won (Some b) e = cc

some_won : (o : Option BestLag) {b : BestLag} → ok_or o HasNone ≡ Ok b → o ≡ Some b
some_won None e = cc
some_won (Some a) {b = b} e = let z : a ≡ b = cc in ap Some z

won_small : (o : Option BestLag) {b : BestLag} → o ≡ Some b → nat_abs (sum_of o) ≤ 131072 → nat_abs b.cc ≤ 131072
won_small o e h = subst (λ (x : Option BestLag). nat_abs (sum_of x) ≤ 131072) e h

pub returns-in_err-won : goal.returns-in_err-won
returns-in_err-won c =
    let z = none_won c.args.best (sym c.ok_or.ensures.value ∙ c.in_err-won.was) in
    let p = err_from_is_err_and c.from_residual.result c.from_residual.ensures.1 in
    rw (p.1, p.2, z.1, z.0) refl

pub silk_div32_16-requires : goal.silk_div32_16-requires
silk_div32_16-requires c =
    let n = c.args.nb_subfr in
    let b = c.in_ok-won.won in
    let h = won_small c.args.best (some_won c.args.best (sym c.ok_or.ensures.value ∙ c.in_ok-won.was)) c.requires.0 in
    let summed : to_z w32 (of_z w32 b.cc) ≡ b.cc = search zneeds in
    rw (summed, (r_nat w32 n (omega arith)).val)
    (λ e. let z : n ≡ 0 = ap nat_abs e in omega arith, abs_fits (quot_z b.cc (pos n)) tt (shared b.cc n h c.requires.1.0))

pub returns : goal.returns
returns c =
    let n = c.args.nb_subfr in
    let b = c.in_ok-won.won in
    let e = some_won c.args.best (sym c.ok_or.ensures.value ∙ c.in_ok-won.was) in
    let h = won_small c.args.best e c.requires.0 in
    let q = quot_z b.cc (pos n) in
    let summed : to_z w32 (of_z w32 b.cc) ≡ b.cc = search zneeds in
    let f : SFits w32 (q *ℤ pos 4) = abs_fits (q *ℤ pos 4) tt (abs_prod {A = 65536} {B = 4} q (pos 4) (shared b.cc n h c.requires.1.0) (omega arith)) in
    let r = r_got w32 c.silk_div32_16.type_inv (c.silk_div32_16.ensures ∙ ap₂ quot_z summed (r_nat w32 n (omega arith)).val) in
    ap (Winner b.lag b.contour) ((r_call1 w32 (λ (x : ℤ). wrap w32 (x *ℤ pos 4)) c.silk_lshift.type_inv r c.silk_lshift.ensures).val ∙ wrap_id w32 (q *ℤ pos 4) f)
    ∙ ap (best_answer n) (sym e)
