-- `stage3_arrays::by_subframe` meets its contract. The invariant: the subframes below k are filled.
use Rattle.std.proofs.Common.{◌≡◌, ap, ap₂, ◌∙◌, List, ℕ, ◌<◌, ℤ, pos, replicate, arith}
use Rattle.lists.specs.Fill.{filled}
use Rattle.lists.specs.FillLaws.{filled_none, filled_turn}
use Rattle.silk_tables.specs.Tables.{in_use}
use Rattle.stage3_arrays.specs.Arrays.{subframe_array, frame_array, lag_range, numbers_at}
use Rattle.stage3_arrays.specs.declared.LagRange.{LagRange}
use Rattle.stage3_arrays.specs.ArrayLaws.{numbers_array}
use Rattle.stage3_arrays.proofs.by_subframe.Goals as goal

pub loop-k-init : goal.loop-k-init
loop-k-init g c = filled_none _ _

pub loop-k-preserved : goal.loop-k-preserved
loop-k-preserved g c =
    let a = c.args.at in
    let b = a.codebook in
    let w = a.frame.now in
    let k = c.loop-k.k in
    let h : k < b.nb = omega arith in
    let f : ℕ → ℤ = g.M.Measure.number w (lag_range a.fs_khz b.nb b.complexity a.start_lag k) in
    let e = c.along-scratch_mem.ensures ∙ ap₂ (λ (x : List ℤ) (q : LagRange). filled (g.M.Measure.number x q) q.count (replicate 22 (pos 0))) c.lags.ensures.frame c.lags.ensures.lags in
    let v = c.by_contour.ensures ∙ numbers_array b.settings h f c.along-scratch_mem.result (replicate 22 (pos 0)) e in
    filled_turn (λ (q : ℕ). subframe_array (in_use b.nb b.complexity) (numbers_at (g.M.Measure.number w) a.fs_khz b.nb b.complexity a.start_lag q)) k (replicate 4 (replicate 34 (replicate 5 (pos 0)))) c.loop-k.invariant v (omega (arith, b.settings.at_most))

pub returns : goal.returns
unfolding frame_array
returns g c =
    let a = c.args.at in
    let b = a.codebook in
    let e : c.loop-k.k ≡ b.nb = omega arith in
    c.loop-k.invariant ∙ ap (λ (n : ℕ). filled (λ (q : ℕ). subframe_array (in_use b.nb b.complexity) (numbers_at (g.M.Measure.number a.frame.now) a.fs_khz b.nb b.complexity a.start_lag q)) n (replicate 4 (replicate 34 (replicate 5 (pos 0))))) e
