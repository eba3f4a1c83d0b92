-- `stage3::PairSearch::scan_lags` meets its contract. The invariant: what is known after the pairs of the lags below d.
use Rattle.std.proofs.Common.{◌≡◌, refl, sym, ap, ◌∙◌, subst, ℕ, ◌+◌, ◌-◌, ◌*◌, ◌≤◌, ℤ, w32, to_z, of_z, arith}
use Rattle.zint.specs.Minus.{minus}
use Rattle.stage3.specs.declared.BestSoFar.{BestSoFar}
use Rattle.zint.specs.ReadLaws.{r_var}
use Rattle.silk_tables.specs.Tables.{in_use}
use Rattle.stage3.specs.Pick.{answer_of, first_tried, last_tried, pick}
use Rattle.stage3.specs.PickLaws.{last_in, first_le_last}
use Rattle.stage3.specs.Search.{array_choice, BestOfFirst, AfterFirst}
use Rattle.stage3.specs.SearchLaws.{searched_start, searched_pick, stopped_pick, pairs_is, pairs_le}
use Rattle.stage3.proofs.pair_search.PairSearch.scan_lags.Goals as goal

pub overflow_add-end : goal.overflow_add-end
overflow_add-end c = let r = c.args.self in omega (arith, last_in r.fs r.lag r.rate_low, r.rate_high, c.end_lag-end.ensures)

pub loop-d-init : goal.loop-d-init
loop-d-init c =
    let a = c.args in
    let f = first_tried a.self.fs a.self.lag in
    let ch = array_choice a.cross_corr_st3.now a.energies_st3.now (to_z w32 (of_z w32 a.energy_target)) a.self in
    let b : BestSoFar = record { top = minus 2147483648; lag = a.self.lag; contour = 0 } in
    let e = c.start_lag-first.ensures in
    let z : c.start_lag-first.result - f ≡ 0 = omega arith in
    let n : 0 ≡ (c.start_lag-first.result - f) * in_use a.self.codebook.nb a.self.codebook.complexity = omega (arith, ap (λ (x : ℕ). x * in_use a.self.codebook.nb a.self.codebook.complexity) z) in
    subst (λ (m : ℕ). BestOfFirst ch m b) n (searched_start ch b refl refl refl)

pub scan_contours-requires : goal.scan_contours-requires
scan_contours-requires c =
    let a = c.args in
    let r = a.self in
    let e = c.start_lag-first.ensures in
    let f = c.end_lag-end.ensures in
    let l = first_le_last a.self.fs a.self.lag r.lag_low r.lag_high r.rate_low in
    record {
      bias_is = (r_var c.ranges.contour_bias_q15).val ∙ c.requires;
      lag_bound = (omega arith, omega arith);
      best_of_first = c.loop-d.invariant;
    }

pub returns-in_err-best : goal.returns-in_err-best
returns-in_err-best c =
    let a = c.args in
    let X = a.cross_corr_st3.now in
    let E = a.energies_st3.now in
    let ch = array_choice X E (to_z w32 (of_z w32 a.energy_target)) a.self in
    let x = subst (AfterFirst ch _) c.in_err-best.was c.scan_contours.ensures in
    let f = c.end_lag-end.ensures in
    let l : c.loop-d.d ≤ last_tried a.self.fs a.self.lag = omega arith in
    let m = pairs_le ch c.loop-d.d l in
    ap answer_of c.from_residual.ensures
    ∙ stopped_pick ch x.0 (omega (arith, x.1)) x.2
    ∙ ap (λ (z : ℤ). pick (array_choice X E z a.self)) (r_var c.ranges.energy_target).val

pub loop-d-preserved : goal.loop-d-preserved
loop-d-preserved c = subst (AfterFirst _ _) c.in_ok-best.was c.scan_contours.ensures

pub returns : goal.returns
returns c =
    let a = c.args in
    let r = a.self in
    let X = a.cross_corr_st3.now in
    let E = a.energies_st3.now in
    let u = first_le_last a.self.fs a.self.lag r.lag_low r.lag_high r.rate_low in
    let s = c.start_lag-first.ensures in
    let f = c.end_lag-end.ensures in
    let e : c.loop-d.d ≡ last_tried a.self.fs a.self.lag + 1 = omega arith in
    let ch = array_choice X E (to_z w32 (of_z w32 a.energy_target)) a.self in
    let n = ap (λ (x : ℕ). (x - first_tried a.self.fs a.self.lag) * in_use a.self.codebook.nb a.self.codebook.complexity) e in
    searched_pick ch c.loop-d.best (subst (λ (m : ℕ). BestOfFirst ch m c.loop-d.best) (n ∙ sym (pairs_is ch)) c.loop-d.invariant)
    ∙ ap (λ (z : ℤ). pick (array_choice X E z a.self)) (r_var c.ranges.energy_target).val
