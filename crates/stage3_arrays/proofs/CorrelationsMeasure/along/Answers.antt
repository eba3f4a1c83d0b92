-- `stage3_arrays::CorrelationsMeasure::along` meets its contract: the kernel counts the lags from the last, and they are turned round.
use Rattle.std.proofs.Common.{◌≡◌, sym, ap, ap₂, ◌∙◌, List, ◌++◌, reverse, ℕ, ◌+◌, ◌-◌, ℤ, pos, get_or, drop, replicate, drop-drop, w32, arith, take, drop_at}
use Rattle.std.proofs.lemmas.List.{get_or-reverse, length-reverse}
use Rattle.zint.specs.Wrap.{wrap}
use Rattle.lists.specs.Fill.{tabulate, filled}
use Rattle.lists.specs.FillLaws.{length_tabulate, get_d_tabulate, tabulate_is, take_filled, filled_ext, tail_part}
use Rattle.silk_sigproc.specs.Dot.{dot}
use Rattle.stage3_arrays.specs.Arrays.{correlation, RangeInFrame}
use Rattle.stage3_arrays.specs.ArrayLaws.{turned}
use Rattle.stage3_arrays.specs.declared.LagRange.{LagRange}
use Rattle.stage3_arrays.proofs.CorrelationsMeasure.along.Goals as goal

-- the filled places of a list, turned round
module _ (f : ℕ → ℤ) (n : ℕ) (l : List ℤ) where
  reversed : reverse (tabulate f n) ≡ tabulate (λ (j : ℕ). f (n - 1 - j)) n
  reversed =
      let e = length_tabulate f n in
      sym (tabulate_is _ n (reverse (tabulate f n)) (pos 0) (omega (arith, e, length-reverse (tabulate f n)))
      (λ j h. sym (get_or-reverse (tabulate f n) j (pos 0) (omega (arith, e)) ∙ ap (λ (m : ℕ). get_or (tabulate f n) (m - 1 - j) (pos 0)) e ∙ get_d_tabulate f n (n - 1 - j) (pos 0) (omega arith))))

  front_reversed : reverse (take n (filled f n l)) ++ drop n (filled f n l) ≡ filled (λ (j : ℕ). f (n - 1 - j)) n l
  unfolding filled
  front_reversed = ap₂ ◌++◌ (ap reverse (take_filled f n l) ∙ reversed) (drop_at (tabulate f n) (drop n l) n (length_tabulate f n))

-- the kernel's numbers, turned round, are the correlations of the range
along : {w : List ℤ} {r : LagRange} → RangeInFrame w r → (l : List ℤ) {out : List ℤ}
    → out ≡ filled (λ (k : ℕ). wrap w32 (dot (drop r.target w) (drop k (drop (r.target - r.first - (r.count - 1)) w)) r.len)) r.count l
    → reverse (take r.count out) ++ drop r.count out ≡ filled (λ (i : ℕ). correlation w r.target r.len (r.first + i)) r.count l
unfolding correlation
along {w} {r} s l e =
    let b = r.target - r.first - (r.count - 1) in
    ap (λ (o : List ℤ). reverse (take r.count o) ++ drop r.count o) e
    ∙ front_reversed _ r.count l
    ∙ filled_ext r.count l (λ j h. ap (λ (x : List ℤ). wrap w32 (dot (drop r.target w) x r.len)) (drop-drop (r.count - 1 - j) b w ∙ ap (λ (n : ℕ). drop n w) (turned r.target r.first r.count j h s.back)))

pub returns : goal.returns
returns c =
    let q = c.args.within in
    let w = q.frame.now in
    let r = q.lags in
    let b = r.target - r.first - (r.count - 1) in
    let e = c.silk_pitch_xcorr.ensures ∙ ap₂ (λ (x y : List ℤ). filled (λ (k : ℕ). wrap w32 (dot x (drop k y) r.len)) r.count (replicate 22 (pos 0))) (tail_part r.target w) (tail_part b w) in
    ap (λ (x : List ℤ). x ++ drop r.count c.silk_pitch_xcorr.new.xcorr) c.reverse.ensures.after ∙ along q.inside (replicate 22 (pos 0)) e
