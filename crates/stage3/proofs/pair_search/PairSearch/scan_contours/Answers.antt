-- `stage3::PairSearch::scan_contours` meets its contract. The invariant: what is known after the pairs of the earlier lags and of the contours below j.
use Rattle.std.proofs.Common.{None, ◌≡◌, sym, ap, ◌∙◌, subst, subst₂, ℕ, ◌+◌, ◌-◌, ◌*◌, ◌<◌, ◌≤◌, ℤ, pos, ◌≤ℤ◌, w32, to_z, of_z, arith}
use Rattle.zint.specs.ReadLaws.{r_var, r_got, r_as, r_holds}
use Rattle.silk_tables.specs.Tables.{in_use}
use Rattle.silk_tables.proofs.TableLaws.{in_use_bounds}
use Rattle.stage3.specs.Pick.{first_tried, last_tried, reached}
use Rattle.stage3.specs.Stage3.{sat_sum}
use Rattle.stage3.specs.PickLaws.{bias_low, bias_high, few_lags, last_le, row_end}
use Rattle.stage3.specs.Search.{with_pair, at3, summed, array_choice, BestOfFirst, AfterFirst}
use Rattle.stage3.specs.SearchLaws.{searched_turn, stopped_more}
use Rattle.stage3.specs.declared.pair_search.PairSearch.{PairSearch}
use Rattle.stage3.proofs.pair_search.PairSearch.scan_contours.Goals as goal
use Rattle.stage3.proofs.pair_search.PairSearch.scan_contours.Goals.{After-consider}

-- a turn: what `consider` answers is what is known after one pair more
went : (c : After-consider)
    → AfterFirst (array_choice c.args.cross_corr_st3.now c.args.energies_st3.now (to_z w32 (of_z w32 c.args.energy_target)) c.args.self)
    ((c.args.d - first_tried c.args.self.fs c.args.self.lag) * in_use c.args.self.codebook.nb c.args.self.codebook.complexity + (c.loop-j.j + 1)) c.consider.result
unfolding summed
went c =
    let a = c.args in
    let r = c.requires in
    let j = c.loop-j.j in
    let z = to_z w32 (of_z w32 a.energy_target) in
    let m = ap (λ (i : ℕ). a.d - i) c.start_lag.ensures in
    let u = c.nb_cbk_search-nb_cbk_search.ensures in
    let h : j < in_use a.self.codebook.nb a.self.codebook.complexity = omega arith in
    let x = c.sum_subframes-cross_corr in
    let y = c.sum_subframes-energy in
    let ex = (r_got w32 x.type_inv (x.ensures ∙ ap (λ (n : ℕ). sat_sum (pos 0) (λ (k : ℕ). at3 a.cross_corr_st3.now k j n) a.self.codebook.nb) m)).val in
    let ey = (r_got w32 y.type_inv (y.ensures ∙ ap (λ (n : ℕ). sat_sum z (λ (k : ℕ). at3 a.energies_st3.now k j n) a.self.codebook.nb) m)).val in
    let eb = (r_var c.ranges.contour_bias_q15).val ∙ r.bias_is in
    searched_turn (array_choice a.cross_corr_st3.now a.energies_st3.now z a.self) a.d j r.lag_bound.0 h c.loop-j.now_best c.loop-j.invariant c.consider.result
    (c.consider.ensures ∙ (λ t. with_pair c.loop-j.now_best (ex t) (ey t) (eb t) a.d j (reached a.self.fs a.self.codebook.nb a.d j)))

pub overflow_sub-lag_counter : goal.overflow_sub-lag_counter
overflow_sub-lag_counter c = omega (arith, c.requires.lag_bound.0)

pub nb_cbk_search-nb_cbk_search-requires : goal.nb_cbk_search-nb_cbk_search-requires
nb_cbk_search-nb_cbk_search-requires c = let r = c.args.self.codebook.settings in omega arith

pub loop-j-init : goal.loop-j-init
loop-j-init c =
    let a = c.args in
    let n : (a.d - first_tried a.self.fs a.self.lag) * in_use a.self.codebook.nb a.self.codebook.complexity ≡ (a.d - first_tried a.self.fs a.self.lag) * in_use a.self.codebook.nb a.self.codebook.complexity + 0 = omega arith in
    subst₂ (λ (z : ℤ) (m : ℕ). BestOfFirst (array_choice a.cross_corr_st3.now a.energies_st3.now z a.self) m a.best) (sym (r_var c.ranges.energy_target).val) n c.requires.best_of_first

-- a place of the arrays
module _ (by : PairSearch) where
  in_arrays : (d j : ℕ) {s n : ℕ} → d ≤ last_tried by.fs by.lag → s ≡ first_tried by.fs by.lag → n ≡ in_use by.codebook.nb by.codebook.complexity → j < n
      → (by.codebook.nb ≤ 4) × ((j < 34) × (d - s < 5))
  in_arrays d j l e u h = omega (arith, by.codebook.settings.at_most, in_use_bounds by.codebook.settings, few_lags by.fs by.lag d by.lag_low l)

pub sum_subframes-cross_corr-requires : goal.sum_subframes-cross_corr-requires
sum_subframes-cross_corr-requires c = in_arrays c.args.self _ _ c.requires.lag_bound.1 c.start_lag.ensures c.nb_cbk_search-nb_cbk_search.ensures c.loop-j-test.true

pub sum_subframes-energy-requires : goal.sum_subframes-energy-requires
sum_subframes-energy-requires c = in_arrays c.args.self _ _ c.requires.lag_bound.1 c.start_lag.ensures c.nb_cbk_search-nb_cbk_search.ensures c.loop-j-test.true

pub consider-requires : goal.consider-requires
consider-requires c =
    let a = c.args in
    let r = a.self in
    let l = last_le a.self.fs a.self.lag in
    let b = r_as (r_var c.ranges.contour_bias_q15) c.requires.bias_is in
    let u = c.nb_cbk_search-nb_cbk_search.ensures in
    record {
      pos_bound = r_holds (λ (x : ℤ). (pos 0 ≤ℤ x) × (x ≤ℤ pos 68)) b (bias_low a.self.lag, bias_high a.self.lag (omega (arith, r.rate_low, r.lag_low)));
      tried = omega (arith, c.requires.lag_bound, l);
      used = omega arith;
    }

pub returns-in_err-now_best : goal.returns-in_err-now_best
returns-in_err-now_best c =
    let a = c.args in
    let f = first_tried a.self.fs a.self.lag in
    let n = in_use a.self.codebook.nb a.self.codebook.complexity in
    let X = a.cross_corr_st3.now in
    let E = a.energies_st3.now in
    let z = to_z w32 (of_z w32 a.energy_target) in
    let x = subst (AfterFirst (array_choice X E z a.self) ((a.d - f) * n + (c.loop-j.j + 1))) c.in_err-now_best.was (went (goal.at.returns-in_err-now_best c).After-consider) in
    let e = row_end a.d f n c.requires.lag_bound.0 in
    let u = c.nb_cbk_search-nb_cbk_search.ensures in
    let h : c.loop-j.j < n = omega arith in
    let y = stopped_more (array_choice X E z a.self) _ ((a.d + 1 - f) * n) (omega arith) x in
    subst (AfterFirst (array_choice X E a.energy_target a.self) ((a.d + 1 - f) * n)) (sym c.from_residual.ensures)
    (subst (λ (z : ℤ). AfterFirst (array_choice X E z a.self) ((a.d + 1 - f) * n) None) (r_var c.ranges.energy_target).val y)

pub loop-j-preserved : goal.loop-j-preserved
loop-j-preserved c = subst (AfterFirst _ _) c.in_ok-now_best.was (went (goal.at.loop-j-preserved c).After-consider)

pub returns : goal.returns
returns c =
    let a = c.args in
    let f = first_tried a.self.fs a.self.lag in
    let n = in_use a.self.codebook.nb a.self.codebook.complexity in
    let e = row_end a.d f n c.requires.lag_bound.0 in
    let u = c.nb_cbk_search-nb_cbk_search.ensures in
    let m : (a.d - f) * n + c.loop-j.j ≡ (a.d + 1 - f) * n = omega arith in
    subst₂ (λ (z : ℤ) (k : ℕ). BestOfFirst (array_choice a.cross_corr_st3.now a.energies_st3.now z a.self) k c.loop-j.now_best) (r_var c.ranges.energy_target).val m c.loop-j.invariant
