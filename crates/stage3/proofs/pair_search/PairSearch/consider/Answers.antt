-- `stage3::PairSearch::consider` meets its contract, way by way.
use Rattle.std.proofs.Common.{Some, Option, ◌≡◌, sym, ap, ap₂, ◌∙◌, Bool, true, false, ℤ, pos, ℕ, ◌<◌, ◌^◌, arith, ◌≤ℤ◌, w32, SFits, to_z, of_z}
use Rattle.std.specs.Int.Signed.{mag, lt_z, le_z_yes, lt_z_yes}
use Rattle.zint.specs.ReadLaws.{r_var, r_got, r_holds, t_above, via_lt}
use Rattle.silk_tables.proofs.TableLaws.{in_use_bounds}
use Rattle.stage3.specs.Pick.{quotient_of, biased}
use Rattle.stage3.specs.SearchLaws.{stopped, better, lower, beyond, passed}
use Rattle.zint.specs.RuleLaws.{zneeds}
use Rattle.stage3.proofs.pair_search.PairSearch.consider.Goals as goal

-- the parameters as the code reads them
module _ {x e b : ℤ} (fx : SFits w32 x) (fe : SFits w32 e) (fb : SFits w32 b) where
  -- what was divided
  divided : {r : Option ℤ} → r ≡ quotient_of (to_z w32 (of_z w32 x)) (to_z w32 (of_z w32 e)) → r ≡ quotient_of x e
  divided p = p ∙ ap₂ quotient_of (r_var fx).val (r_var fe).val

  positive : {t : Bool} → lt_z (pos 0) (to_z w32 (of_z w32 x)) ≡ t → lt_z (pos 0) x ≡ t
  positive p = t_above (pos 0) (r_var fx) p

  -- the score
  marked : (q m : ℤ) (j : ℕ) → mag m < 2 ^ 31 → to_z w32 (of_z w32 q) ≡ q → m ≡ biased (to_z w32 (of_z w32 q)) (to_z w32 (of_z w32 b)) j → to_z w32 (of_z w32 m) ≡ biased q b j
  marked q m j f s p = (r_got w32 f (p ∙ ap₂ (λ (y z : ℤ). biased y z j) s (r_var fb).val)).val

pub silk_div32_varq-requires : goal.silk_div32_varq-requires
silk_div32_varq-requires c = (le_z_yes tt, lt_z_yes tt)

pub returns-in_err-q : goal.returns-in_err-q
returns-in_err-q c =
    let f = c.ranges in
    c.from_residual.ensures
    ∙ sym (stopped _ _ _ _ _ _ _ (positive f.cross_corr f.energy f.contour_bias_q15 c.if-cross_corr-gt0.true) (sym (divided f.cross_corr f.energy f.contour_bias_q15 c.silk_div32_varq.ensures.value) ∙ c.in_err-q.was))

pub mark_down-cc_max_new-requires : goal.mark_down-cc_max_new-requires
mark_down-cc_max_new-requires c =
    let h : c.args.j < 34 = omega (arith, in_use_bounds c.args.self.codebook.settings, c.requires.used) in
    let b = c.requires.pos_bound in
    r_holds (λ (x : ℤ). (pos 0 ≤ℤ x) × ((x ≤ℤ pos 68) × (c.args.j < 34))) (r_var c.ranges.contour_bias_q15) (b.0, (b.1, h))

pub returns-then-in_reach : goal.returns-then-in_reach
returns-then-in_reach c =
    let f = c.ranges in
    let a = c.args in
    let q = c.in_ok-q.q in
    let s : to_z w32 (of_z w32 q) ≡ q = search zneeds in
    let t : to_z w32 (of_z w32 a.best.top) ≡ a.best.top = search zneeds in
    let n = marked f.cross_corr f.energy f.contour_bias_q15 q _ a.j c.mark_down-cc_max_new.type_inv s c.mark_down-cc_max_new.ensures in
    let d = divided f.cross_corr f.energy f.contour_bias_q15 c.silk_div32_varq.ensures.value in
    ap (λ (x : ℤ). Some (record { top = x; lag = a.d; contour = a.j })) n
    ∙ sym (better a.best _ _ _ _ _ _ q (positive f.cross_corr f.energy f.contour_bias_q15 c.if-cross_corr-gt0.true) (sym d ∙ c.in_ok-q.was) (sym c.in_reach.ensures ∙ c.if-in_reach.true) (via_lt _ _ _ _ true c.if-cc_max_new-top.true t n))

pub returns-else-in_reach : goal.returns-else-in_reach
returns-else-in_reach c =
    let f = c.ranges in
    let d = divided f.cross_corr f.energy f.contour_bias_q15 c.silk_div32_varq.ensures.value in
    sym (beyond c.args.best _ _ _ _ _ _ c.in_ok-q.q (positive f.cross_corr f.energy f.contour_bias_q15 c.if-cross_corr-gt0.true) (sym d ∙ c.in_ok-q.was) (sym c.in_reach.ensures ∙ c.if-in_reach.false))

pub returns-else-cc_max_new-top : goal.returns-else-cc_max_new-top
returns-else-cc_max_new-top c =
    let f = c.ranges in
    let a = c.args in
    let p = c.in_ok-q.q in
    let s : to_z w32 (of_z w32 p) ≡ p = search zneeds in
    let t : to_z w32 (of_z w32 a.best.top) ≡ a.best.top = search zneeds in
    let n = marked f.cross_corr f.energy f.contour_bias_q15 p _ a.j c.mark_down-cc_max_new.type_inv s c.mark_down-cc_max_new.ensures in
    let d = divided f.cross_corr f.energy f.contour_bias_q15 c.silk_div32_varq.ensures.value in
    sym (lower a.best _ _ _ _ _ _ p (positive f.cross_corr f.energy f.contour_bias_q15 c.if-cross_corr-gt0.true) (sym d ∙ c.in_ok-q.was) (via_lt _ _ _ _ false c.if-cc_max_new-top.false t n))

pub returns-else-cross_corr-gt0 : goal.returns-else-cross_corr-gt0
returns-else-cross_corr-gt0 c = let f = c.ranges in sym (passed _ _ _ _ _ _ _ (positive f.cross_corr f.energy f.contour_bias_q15 c.if-cross_corr-gt0.false))
