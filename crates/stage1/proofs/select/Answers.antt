-- `stage1::select` meets its contract: the best score is the first of the sorted ones.
use Rattle.std.proofs.Common.{get_or-take, length-take-le, List, ◌≡◌, ap, ◌∙◌, ℕ, ◌+◌, ◌≤◌, ◌<◌, arith, ℤ, pos, length, take, get_or, replicate, w16, w32, SFits, to_z, of_z}
use Rattle.lists.specs.Fill.{filled}
use Rattle.zint.specs.ReadLaws.{Reads, r_var, wide_32, r_call2, t_below}
use Rattle.lists.specs.Signal.{sample}
use Rattle.silk_macros.specs.Macros.{smulwb}
use Rattle.stage1.specs.Steps.{count_above}
use Rattle.stage1.specs.KeptLaws.{front_lags, selected_low, selected_high}
use Rattle.zint.specs.RuleLaws.{zneeds}
use Rattle.stage1.proofs.select.Goals as goal

-- the best score
first : (l : List ℤ) → SFits w16 (get_or l 0 (pos 0)) → Reads w32 (of_z w32 (to_z w16 (of_z w16 (get_or l 0 (pos 0))))) (sample l 0)
unfolding sample
first l f = wide_32 f

pub returns-then-best-lt3277 : goal.returns-then-best-lt3277
returns-then-best-lt3277 c = selected_low _ _ _ _ (t_below (pos 3277) (first c.args.c_combined.now (search zneeds)) c.if-best-lt3277.true)

-- how many go on, of the threshold t that was computed of the best score
counted : (l : List ℤ) (n k : ℕ) (thres1 t : ℤ) → SFits w32 thres1 → SFits w32 t → SFits w16 (get_or l 0 (pos 0))
    → t ≡ smulwb (to_z w32 (of_z w32 thres1)) (to_z w32 (of_z w32 (to_z w16 (of_z w16 (get_or l 0 (pos 0)))))) → k ≡ count_above l n (to_z w32 (of_z w32 t))
    → k ≡ count_above l n (smulwb thres1 (sample l 0))
counted l n k thres1 t f g h e q = q ∙ ap (count_above l n) (r_call2 w32 smulwb g.sfits (r_var f) (first l h) e).val

-- the indices of those that go on
module _ (d : List ℕ) (n : ℕ) (h : n ≤ length d) where
  long : length (take n d) ≡ n
  long = length-take-le n d h

  low : ((i : ℕ) → i < length d → get_or d i 0 < 65) → (i : ℕ) → i < length (take n d) → get_or (take n d) i 0 < 65
  low f i l =
      let m : i < n = omega (arith, long) in
      rw (get_or-take n d i 0 m) (f i (omega arith))

  lags : {x : List ℕ} → x ≡ filled (λ i. 8 + get_or (take n d) i 0) (length (take n d)) (replicate 8 0) → x ≡ filled (λ i. 8 + get_or d i 0) n (replicate 8 0)
  lags e = e ∙ ap (λ (m : ℕ). filled (λ i. 8 + get_or (take n d) i 0) m (replicate 8 0)) long ∙ front_lags d n n (omega arith)

pub lags_of-lags-requires : goal.lags_of-lags-requires
lags_of-lags-requires c =
    let d = c.args.d_srch.now in
    let r = c.requires.1 in
    let n : c.run_above-count.result ≤ length d = omega arith in
    (omega (arith, long d _ n), low d _ n r.1.1)

pub returns : goal.returns
returns c =
    let l = c.args.c_combined.now in
    let d = c.args.d_srch.now in
    let n : c.run_above-count.result ≤ length d = omega arith in
    selected_high _ _ _ _ _ _ (t_below (pos 3277) (first l (search zneeds)) c.if-best-lt3277.false)
    (counted l (length l) c.run_above-count.result _ _ c.ranges.search_thres1_q16 (record { sfits = c.silk_smulwb-threshold.type_inv }) (search zneeds) c.silk_smulwb-threshold.ensures c.run_above-count.ensures.value)
    (lags d _ n c.lags_of-lags.ensures)
