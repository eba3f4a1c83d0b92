-- `stage3::search_stage3` meets its contract: the arrays, the target energy and the bias are what the definition has.
use Rattle.std.proofs.Common.{◌≡◌, ap, ◌∙◌, ℕ, ◌≤◌, div-le_self, List, ℤ, pos, nat_abs, w32, SFits, arith}
use Rattle.std.specs.Int.Signed.{quot_z}
use Rattle.zint.specs.ReadLaws.{r_nat, r_got, r_holds}
use Rattle.stage3.specs.Pick.{answer_of, bias_of, first_tried}
use Rattle.stage3.specs.PickLaws.{first_low, last_le, first_le_last}
use Rattle.stage3_arrays.specs.Arrays.{LagInFrame}
use Rattle.silk_tables.specs.ContourLaws.{greatest_lag_le}
use Rattle.stage3.specs.SearchLaws.{array_pick}
use Rattle.stage3.specs.NumberLaws.{and_numbers}
use Rattle.stage3.specs.declared.pair_search.PairSearch.{PairSearch}
use Rattle.stage3.proofs.search_stage3.Goals as goal

-- the lag is small, and the first lag tried is one of the frame
module _ {w : List ℤ} {fs nb cx lag : ℕ} (r : LagInFrame w fs nb cx lag) where
  lag_small : lag ≤ 288
  lag_small = omega (arith, r.rate_high, r.lag_high, greatest_lag_le fs r.rate_low)

  start_in : {n : ℕ} → n ≡ first_tried fs lag → LagInFrame w fs nb cx n
  start_in {n} f =
      let l = first_low fs lag in
      let u = first_le_last fs lag r.lag_low r.lag_high r.rate_low in
      let h = last_le fs lag in
      record { settings = r.settings; rate_low = r.rate_low; rate_high = r.rate_high; long = r.long; lag_low = omega (arith, l, f); lag_high = omega (arith, u, h, f) }

-- where the search looks
abbrev by : {w : List ℤ} {fs nb cx lag : ℕ} → LagInFrame w fs nb cx lag → PairSearch
by {w} {fs} {nb} {cx} {lag} r = record {
  fs = fs;
  codebook = record { nb = nb; complexity = cx; settings = r.settings };
  lag = lag;
  rate_low = r.rate_low;
  rate_high = r.rate_high;
  lag_low = r.lag_low;
  lag_high = r.lag_high;
}

pub invariant_of-by : goal.invariant_of-by
invariant_of-by c = record { settings = c.requires.settings }

pub invariant_of-at : goal.invariant_of-at
invariant_of-at c = record { in_frame = start_in c.requires c.start_lag.ensures }

pub silk_div32_16-contour_bias_q15-requires : goal.silk_div32_16-contour_bias_q15-requires
silk_div32_16-contour_bias_q15-requires c =
    let n = c.args.lag in
    let r = c.requires in
    r_holds (λ (x : ℤ). (x ≡ pos 0 → ⊥) × SFits w32 (quot_z (pos 1638) x)) (r_nat w32 n (omega (arith, lag_small r)))
    (λ e. let z : n ≡ 0 = ap nat_abs e in omega (arith, r.rate_low, r.lag_low), record { sfits = omega (arith, div-le_self 1638 n) })

pub scan_lags-requires : goal.scan_lags-requires
unfolding bias_of
scan_lags-requires c =
    let r = c.requires in
    let d = c.silk_div32_16-contour_bias_q15 in
    let b = (r_got w32 d.type_inv (d.ensures ∙ ap (quot_z (pos 1638)) (r_nat w32 c.args.lag (omega (arith, lag_small r))).val)).val in
    b

pub returns : goal.returns
returns c =
    let a = c.args in
    let t = c.target_energy-energy_target in
    let b = and_numbers _ _ _ _ _ (answer_of c.scan_lags.result)
    (array_pick a.frame.now (by c.requires) c.requires c.scan_lags.ensures
    c.start_lag.ensures c.silk_p_ana_calc_corr_st3-cross_corr_st3.ensures c.silk_p_ana_calc_energy_st3-energies_st3.ensures (r_got w32 t.type_inv t.ensures).val) in
    record { value = b.0; numbers = b.1 }

pub overflow_cast-lag : goal.overflow_cast-lag
overflow_cast-lag c = record { sfits = omega (arith, lag_small c.requires) }
