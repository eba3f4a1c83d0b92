-- `stage1::lags_of` meets its contract. The invariant: the array is filled below i.
use Rattle.std.proofs.Common.{◌≡◌, refl, ap, ◌∙◌, ℕ, ◌+◌, arith, length, get_or, replicate}
use Rattle.lists.specs.Fill.{filled}
use Rattle.lists.specs.FillLaws.{filled_none, filled_turn}
use Rattle.stage1.proofs.lags_of.Goals as goal

pub loop-i-init : goal.loop-i-init
loop-i-init c = filled_none _ _

pub overflow_add-lags : goal.overflow_add-lags
overflow_add-lags c =
    let l = c.requires.1 c.loop-i.i (omega arith) in
    omega arith

pub loop-i-preserved : goal.loop-i-preserved
loop-i-preserved c =
    let a = c.args in
    filled_turn (λ (k : ℕ). 8 + get_or a.d_srch.now k 0) c.loop-i.i (replicate 8 0) c.loop-i.invariant refl (omega arith)

pub returns : goal.returns
returns c =
    let a = c.args in
    let e : c.loop-i.i ≡ length a.d_srch.now = omega arith in
    c.loop-i.invariant ∙ ap (λ (m : ℕ). filled (λ (k : ℕ). 8 + get_or a.d_srch.now k 0) m (replicate 8 0)) e
