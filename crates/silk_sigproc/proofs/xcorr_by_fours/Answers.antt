-- `silk_sigproc::xcorr_by_fours` meets its contract.
use Rattle.std.proofs.Common.{◌≡◌, ap, ◌∙◌, List, ℕ, ◌+◌, ◌*◌, ◌-◌, arith, ℤ, length, drop, take, drop-drop, w32}
use Rattle.zint.specs.Wrap.{wrap}
use Rattle.lists.specs.Fill.{filled, tabulate}
use Rattle.lists.specs.FillLaws.{filled_none, filled_more, tabulate_ext, tail_part}
use Rattle.silk_sigproc.specs.Dot.{dot}
use Rattle.silk_sigproc.specs.DotLaws.{lag_dot}
use Rattle.silk_sigproc.proofs.xcorr_by_fours.Goals as goal

-- what a turn copies to n and the three places after it
four : (x y : List ℤ) (len n : ℕ) → tabulate (lag_dot x (take (length y - n) (drop n y)) len) 4 ≡ tabulate (λ (j : ℕ). lag_dot x y len (n + j)) 4
four x y len n =
    tabulate_ext 4 (λ j h. ap (λ (s : List ℤ). lag_dot x s len j) (tail_part n y) ∙ ap (λ (s : List ℤ). wrap w32 (dot x s len)) (drop-drop j n y))

pub loop-k-init : goal.loop-k-init
loop-k-init c = filled_none _ _

pub loop-k-preserved : goal.loop-k-preserved
loop-k-preserved c =
    let a = c.args in
    let x = a.x.now in
    let y = a.y.now in
    let f = lag_dot x y a.len in
    let k = c.loop-k.k in
    let n : 4 * k + 4 ≡ 4 * (k + 1) = omega arith in
    filled_more f (4 * k) 4 (4 * k + 4 - 4 * k) a.xcorr.now c.loop-k.invariant (c.copy_from_slice.ensures.after ∙ c.xcorr_kernel_scalar-sum.ensures ∙ four x y a.len (4 * k)) (omega arith)
    ∙ ap (λ (m : ℕ). filled f m a.xcorr.now) n

pub returns : goal.returns
returns c =
    let a = c.args in
    let e : 4 * c.loop-k.k ≡ 4 * a.fours = omega arith in
    c.loop-k.invariant ∙ ap (λ (n : ℕ). filled (lag_dot a.x.now a.y.now a.len) n a.xcorr.now) e
