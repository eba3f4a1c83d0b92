-- `stage2::search_stage2` meets its contract.
use Rattle.std.proofs.Common.{◌≡◌, sym, ap, ◌∙◌, subst, Bool, false, List, ℕ, ◌+◌, arith, below_more, ℤ, pos, replicate, Result, Ok, Err, true, refl}
use Rattle.std.proofs.Math.Path.{transport}
use Rattle.lists.specs.Fill.{tabulate}
use Rattle.lists.specs.FillLaws.{filled_none, filled_turn}
use Rattle.stage2_correlations.specs.Marks.{measured}
use Rattle.stage2_correlations.specs.Correlations.{target2, correlation2}
use Rattle.stage2_correlations.specs.Rows.{row_by, subframe_row}
use Rattle.stage2_correlations.specs.RowLaws.{subframe_row_kept, zero_in2, zero_row}
use Rattle.stage2.specs.Stage2.{ZeroDivisor, answer_of}
use Rattle.stage2.specs.NumberLaws.{and_numbers}
use Rattle.silk_tables.proofs.TableLaws.{two_to_four}
use Rattle.silk_tables.specs.Stage2Laws.{contours2_bounds, contours2_le}
use Rattle.stage2.specs.Search.{at2, SixteenBits, search_in, BestOfAll}
use Rattle.stage2.specs.SearchLaws.{subframes_of, rows, rows_small, stage2_picked, stage2_zero}
use Rattle.stage2.proofs.search_stage2.Goals as goal

pub loop-k-init : goal.loop-k-init
unfolding rows
loop-k-init c = (omega arith, (refl, (c.measured_lags-marks.ensures, (λ q l. absurd (omega arith), filled_none _ _))))

pub subframe_row-requires : goal.subframe_row-requires
unfolding target2
subframe_row-requires c =
    let h = c.requires in
    (omega (arith, two_to_four h.subframes), omega (arith, h.long))

-- the row of subframe k is that of the definition
module _ (e : List ℤ) (kept : List ℕ) (k : ℕ) {r : Result (List ℤ) (List ℤ)} {m : List Bool} (f : r ≡ subframe_row e m k) (g : m ≡ tabulate (λ i. measured kept (14 + i)) 132) where
  row_is : r ≡ row_by (zero_in2 e kept k) (tabulate (λ i. correlation2 e kept k (14 + i)) 132)
  row_is =
      f ∙ ap (λ (x : List Bool). subframe_row e x k) g ∙ subframe_row_kept e kept k
      ∙ ap (λ (t : Bool). row_by t (tabulate (λ i. correlation2 e kept k (14 + i)) 132)) (zero_row e kept k)

-- and the error of one with a zero divisor
no_row : (t : Bool) (l : List ℤ) {x : List ℤ} {r : Result (List ℤ) (List ℤ)} → r ≡ row_by t l → r ≡ Err x → t ≡ true
no_row true l h k = refl
no_row false l h k = cc

some_row : (t : Bool) (l : List ℤ) {x : List ℤ} {r : Result (List ℤ) (List ℤ)} → r ≡ row_by t l → r ≡ Ok x → (t ≡ false) × (x ≡ l)
some_row true l h k = cc
some_row false l h k = (refl, cc)

pub returns-in_default : goal.returns-in_default
returns-in_default c =
    let a = c.args in
    let k = c.loop-k.k in
    let e = a.frame_8khz.now in
    let z = no_row (zero_in2 e a.kept.now k) _ (row_is e a.kept.now k c.subframe_row.ensures c.loop-k.invariant.1.1.0) c.in_default.is in
    let q = and_numbers e a.kept.now a.s.rate a.s.nb a.s.complexity a.s.thres2 a.prev.lag a.prev.correlation ZeroDivisor
    (stage2_zero e a.kept.now a.s.rate a.s.nb a.s.complexity a.s.thres2 a.prev.lag a.prev.correlation k (omega arith) z) in
    record { value = q.0; numbers = q.1 }

pub offset_bounds-c_8khz-k : goal.offset_bounds-c_8khz-k
offset_bounds-c_8khz-k c = omega (arith, two_to_four c.requires.subframes)

pub bounds-c_8khz-k : goal.bounds-c_8khz-k
bounds-c_8khz-k c = omega (arith, two_to_four c.requires.subframes)

pub loop-k-preserved : goal.loop-k-preserved
unfolding rows
loop-k-preserved c =
    let a = c.args in
    let e = a.frame_8khz.now in
    let k = c.loop-k.k in
    let inv = c.loop-k.invariant.1.1 in
    let z = some_row (zero_in2 e a.kept.now k) _ (row_is e a.kept.now k c.subframe_row.ensures inv.0) c.in-Ok.is in
    let row : ℕ → List ℤ = λ q. tabulate (λ i. correlation2 e a.kept.now q (14 + i)) 132 in (
      omega arith,
      (
        c.loop-k.invariant.1.0,
        (
          inv.0,
          (
            below_more (λ (q : ℕ). zero_in2 e a.kept.now q ≡ false) k inv.1.0 z.0,
            filled_turn row k (replicate 4 (replicate 132 (pos 0))) inv.1.1 z.1 (omega arith),
          ),
        ),
      ),
    )

-- the loop's array, and what the search goes by
array_is : (e : List ℤ) (kept : List ℕ) (c : List (List ℤ)) {k nb : ℕ} → c ≡ rows e kept k → k ≡ nb → c ≡ rows e kept nb
array_is e kept c f g = f ∙ ap (rows e kept) g

pub invariant_of-search : goal.invariant_of-search
invariant_of-search c =
    let a = c.args in
    let h = two_to_four c.requires.subframes in
    let b = contours2_bounds a.s.rate a.s.nb a.s.complexity in
    let l = contours2_le a.s.rate a.s.nb a.s.complexity in
    let k : c.loop-k.k ≡ a.s.nb = omega arith in
    let array = array_is a.frame_8khz.now a.kept.now c.loop-k.c_8khz c.loop-k.invariant.1.1.1.1 k in
    let by = c.lag_search.ensures in
    rw by (record {
      small = subst (λ (x : List (List ℤ)). SixteenBits (at2 x) a.s.nb) (sym array) (rows_small a.frame_8khz.now a.kept.now a.s.nb);
      subframes = subframes_of c.requires.subframes;
      at_most = h.1;
      some_tried = omega arith;
      in_codebook = omega arith;
    })

pub answer-requires : goal.answer-requires
answer-requires c = (c.pick_lag.ensures.small, two_to_four c.requires.subframes)

pub returns : goal.returns
returns c =
    let a = c.args in
    let k : c.loop-k.k ≡ a.s.nb = omega arith in
    let array = array_is a.frame_8khz.now a.kept.now c.loop-k.c_8khz c.loop-k.invariant.1.1.1.1 k in
    let by = c.lag_search.ensures in
    let u = transport (λ t. BestOfAll (search_in (array t) a.kept.now (by t)) c.pick_lag.result) c.pick_lag.ensures in
    let p = and_numbers _ _ _ _ _ _ _ _ (answer_of c.answer.result)
    (c.answer.ensures
    ∙ u.answer
    ∙ stage2_picked a.frame_8khz.now a.kept.now a.s.rate a.s.nb a.s.complexity a.s.thres2 a.prev.lag a.prev.correlation (λ q h. c.loop-k.invariant.1.1.1.0 q (omega arith))) in
    record { value = p.0; numbers = p.1 }
