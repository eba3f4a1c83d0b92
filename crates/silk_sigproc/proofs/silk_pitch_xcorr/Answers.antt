-- `silk_sigproc::silk_pitch_xcorr` meets its contract. The invariant is said of every list that the list at the loop's start fills.
use Rattle.std.proofs.Common.{ℕ, ◌≡◌, ap, ◌∙◌, List, arith, ℤ, w32}
use Rattle.zint.specs.ReadLaws.{r_got}
use Rattle.zint.specs.Wrap.{wrap}
use Rattle.lists.specs.Fill.{filled}
use Rattle.lists.specs.FillLaws.{filled_turn, tail_part}
use Rattle.silk_sigproc.specs.Dot.{dot}
use Rattle.silk_sigproc.specs.DotLaws.{lag_dot}
use Rattle.silk_sigproc.proofs.silk_pitch_xcorr.Goals as goal

pub loop-i-init : goal.loop-i-init
loop-i-init c = c.xcorr_by_fours.ensures

pub loop-i-preserved : goal.loop-i-preserved
loop-i-preserved c =
    let x = c.args.x.now in
    let y = c.args.y.now in
    let len = c.args.len in
    let i = c.loop-i.i in
    let v = (r_got w32 c.silk_inner_prod_aligned.type_inv (c.silk_inner_prod_aligned.ensures ∙ ap (λ (t : List ℤ). wrap w32 (dot x t len)) (tail_part i y))).val in
    filled_turn (lag_dot x y len) i c.args.xcorr.now c.loop-i.invariant v (omega arith)

pub returns : goal.returns
returns c =
    let e : c.loop-i.i ≡ c.args.max_pitch = omega arith in
    c.loop-i.invariant ∙ ap (λ (n : ℕ). filled (lag_dot c.args.x.now c.args.y.now c.args.len) n c.args.xcorr.now) e
