-- `stage2::Search8khz::contour_sum` meets its contract.
use Rattle.std.proofs.Common.{◌≡◌, refl, sym, ap, ap₂, ◌∙◌, ℕ, ◌≤◌, ◌<◌, arith, ℤ, pos, nat_abs, ◌+ℤ◌, w16, w32, w64, SFits, to_z, of_z, rules}
use Rattle.zint.specs.BoundLaws.{abs_add, abs_fits}
use Rattle.zint.specs.ReadLaws.{Reads, r_var, r_nat, r_got, r_as, r_add, wide_32, f_add, fit_as, as_unsigned}
use Rattle.silk_tables.specs.Tables.{offset2, moved_lag2}
use Rattle.silk_tables.specs.Stage2Laws.{moved2_is, moved2_fits}
use Rattle.stage2.specs.Scores.{sum, contour_sum}
use Rattle.stage2.specs.ScoreLaws.{sum_next, sum_small, moved_in}
use Rattle.stage2.specs.Search.{at2}
use Rattle.stage2.specs.SearchLaws.{two_or_four}
use Rattle.stage2.proofs.Search8khz.contour_sum.Goals as goal

pub loop-i-init : goal.loop-i-init
unfolding sum
loop-i-init c = (omega arith, refl)

pub lag_cb_stage2-requires : goal.lag_cb_stage2-requires
lag_cb_stage2-requires c = (two_or_four c.args.self.now.subframes, (omega arith, c.requires.1.1))

-- the lag that the contour moves d to, and its place in the row
module _ (c : goal.After-lag_cb_stage2) where
  abbrev at : ℕ
  at = c.loop-i.i

  abbrev moved : ℤ
  moved = pos c.args.d +ℤ offset2 c.args.self.now.by.nb at c.args.j

  moved_read : Reads w32 (of_z w32 (to_z w32 c.args.d +ℤ to_z w32 (of_z w32 c.lag_cb_stage2.result))) moved
  moved_read =
      r_add (r_nat w32 c.args.d (omega arith)) (r_got w32 c.lag_cb_stage2.type_inv c.lag_cb_stage2.ensures)
      (moved2_fits c.args.self.now.by.nb at c.args.d c.args.j (omega arith))

  abbrev lag : ℕ
  lag = moved_lag2 c.args.self.now.by.nb at c.args.d c.args.j

  lag_in : (14 ≤ lag) × (lag ≤ 145)
  lag_in = moved_in c.args.self.now.by.nb at c.args.d c.args.j c.requires.0 c.requires.1.0

  lag_is : nat_abs (to_z w32 (of_z w32 (to_z w32 c.args.d +ℤ to_z w32 (of_z w32 c.lag_cb_stage2.result)))) ≡ lag
  unfolding moved_lag2
  lag_is = ap nat_abs moved_read.val

pub overflow_add-d_subfr : goal.overflow_add-d_subfr
overflow_add-d_subfr c =
    let a = c.args in
    f_add (r_nat w32 a.d (omega arith)) (r_got w32 c.lag_cb_stage2.type_inv c.lag_cb_stage2.ensures) (moved2_fits a.self.now.by.nb (at c) a.d a.j (omega arith))

pub overflow_cast-d_subfr-in-loop-i : goal.overflow_cast-d_subfr-in-loop-i
overflow_cast-d_subfr-in-loop-i c =
    let a = c.args in
    as_unsigned w64 (lag c) ((moved_read c).val ∙ sym (moved2_is a.self.now.by.nb (at c) a.d a.j (omega arith))) (omega (arith, lag_in c))

pub overflow_sub-cc : goal.overflow_sub-cc
overflow_sub-cc c = omega (arith, lag_is c, lag_in c)

pub bounds-self-d_subfr : goal.bounds-self-d_subfr
bounds-self-d_subfr c = omega (arith, lag_is c, lag_in c)

-- the correlation that is added, and the sum
module _ (c : goal.After-cc-1) where
  abbrev each : ℕ → ℤ
  each k = at2 c.args.self.now.c_8khz.now k (moved_lag2 c.args.self.now.by.nb k c.args.d c.args.j)

  abbrev element : ℤ
  element = at2 c.args.self.now.c_8khz.now c.loop-i.i (nat_abs (to_z w32 (of_z w32 (to_z w32 c.args.d +ℤ to_z w32 (of_z w32 c.lag_cb_stage2.result)))))

  element_read : Reads w32 (of_z w32 (to_z w16 (of_z w16 element))) (each c.loop-i.i)
  element_read = r_as (wide_32 (record { sfits = search rules })) (ap (at2 c.args.self.now.c_8khz.now c.loop-i.i) (lag_is c.before))

  small : (k : ℕ) → k < c.args.self.now.by.nb → nat_abs (each k) ≤ 32768
  small k l =
      let a = c.args in
      let m = moved_in a.self.now.by.nb k a.d a.j c.requires.0 c.requires.1.0 in
      a.self.now.small.each k _ l m.0 m.1

  sum_fits : SFits w32 (sum each c.loop-i.i +ℤ each c.loop-i.i)
  sum_fits =
      let i = c.loop-i.i in
      let h : i < c.args.self.now.by.nb = c.loop-i-test.true in
      let p = sum_small each i 32768 (λ k l. small k (omega arith)) in
      let q = abs_add (sum each i) (each i) p (small i h) in
      let r = c.args.self.now.at_most in
      abs_fits {K = 131072} (sum each i +ℤ each i) tt (omega (arith, q))

pub overflow_add-cc : goal.overflow_add-cc
overflow_add-cc c = fit_as (sum_fits c) (ap₂ ◌+ℤ◌ c.loop-i.invariant.1 (element_read c).val)

pub loop-i-preserved : goal.loop-i-preserved
loop-i-preserved c =
    let e = ap₂ ◌+ℤ◌ c.loop-i.invariant.1 (element_read c).val in
    (omega arith, ap (λ (z : ℤ). to_z w32 (of_z w32 z)) e ∙ (r_var (sum_fits c)).val ∙ sym (sum_next (each c) c.loop-i.i))

pub returns : goal.returns
unfolding contour_sum
returns c =
    let a = c.args in
    let e : c.loop-i.i ≡ a.self.now.by.nb = omega arith in
    c.loop-i.invariant.1 ∙ ap (sum (λ (k : ℕ). at2 a.self.now.c_8khz.now k (moved_lag2 a.self.now.by.nb k a.d a.j))) e
