-- `silk_resampler::decimate` meets its contract: `out` is filled below 2 m.
use Rattle.std.proofs.Common.{ℕ, ◌≤◌, ◌+◌, ◌*◌, ◌≡◌, refl, ap, ◌∙◌, arith, length-set, w16}
use Rattle.zint.specs.ReadLaws.{r_got}
use Rattle.lists.specs.Fill.{filled}
use Rattle.lists.specs.FillLaws.{filled_none, filled_turn}
use Rattle.lists.specs.Signal.{sample}
use Rattle.silk_resampler.specs.Down23.{filter_numbers, decimated}
use Rattle.silk_resampler.specs.Down23Laws.{decimated_even, decimated_odd}
use Rattle.silk_resampler.proofs.decimate.Goals as goal

pub loop-m-init : goal.loop-m-init
loop-m-init c = (omega arith, (refl, filled_none _ _))

pub bounds-out-m-in-loop-m : goal.bounds-out-m-in-loop-m
bounds-out-m-in-loop-m c = simp length-set (omega arith)

pub loop-m-preserved : goal.loop-m-preserved
loop-m-preserved c =
    let a = c.args in
    let b = sample a.buf.now in
    let f = decimated (filter_numbers a.filter) b in
    let m = c.loop-m.m in
    let i = c.loop-m.invariant.1 in
    let g : m + 1 ≤ a.n = omega arith in
    let h : 2 * m + 1 + 1 ≡ 2 * (m + 1) = omega arith in
    let e = (r_got w16 c.even_output-even.type_inv c.even_output-even.ensures).val ∙ decimated_even (filter_numbers a.filter) b m in
    let o = (r_got w16 c.odd_output-odd.type_inv c.odd_output-odd.ensures).val ∙ decimated_odd (filter_numbers a.filter) b m in
    let t = filled_turn f (2 * m) a.out.now i.1 e (omega arith) in
    (g, (simp length-set i.0, filled_turn f (2 * m + 1) a.out.now t o (omega arith) ∙ ap (λ (k : ℕ). filled f k a.out.now) h))

pub returns : goal.returns
returns c =
    let a = c.args in
    let e : c.loop-m.m ≡ a.n = omega arith in
    c.loop-m.invariant.1.1 ∙ ap (λ (k : ℕ). filled (decimated (filter_numbers a.filter) (sample a.buf.now)) (2 * k) a.out.now) e
