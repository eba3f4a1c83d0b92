-- `silk_sigproc::sum_pairs` meets its contract.
use Rattle.std.proofs.Common.{◌≡◌, sym, ap, ◌∙◌, ◌+◌, ◌*◌, ◌-◌, arith, pos, length, get_or, w16, rules}
use Rattle.std.proofs.Math.ListN.{get_or-eq_default}
use Rattle.zint.specs.ReadLaws.{r_elem}
use Rattle.lists.specs.Signal.{sample}
use Rattle.silk_sigproc.specs.SumSqr.{pairs}
use Rattle.silk_sigproc.specs.SumSqrLaws.{summed_none, summed_turn, unscaled, summed_le, summed_all}
use Rattle.silk_sigproc.proofs.sum_pairs.Goals as goal

pub loop-k-init : goal.loop-k-init
loop-k-init c = (search rules, summed_none _ _)

pub overflow_add-sum : goal.overflow_add-sum
overflow_add-sum c =
    omega (arith, summed_le c.loop-k.invariant.1, unscaled c.pair_energy-sum.result c.args.shift c.pair_energy-sum.ensures.1)

pub loop-k-preserved : goal.loop-k-preserved
unfolding sample
loop-k-preserved c =
    let x = c.args.x.now in
    let k = c.loop-k.k in (
      omega arith,
      summed_turn c.loop-k.invariant.1 c.pair_energy-sum.ensures (r_elem w16 (get_or x (2 * k) (pos 0)) c.pair_energy-arg-1.given).val
          (r_elem w16 (get_or x (2 * k + 1) (pos 0)) c.pair_energy-arg-in-loop-k-1.given).val,
    )

pub overflow_add-sum-then-n-eq1 : goal.overflow_add-sum-then-n-eq1
overflow_add-sum-then-n-eq1 c =
    omega (arith, summed_le c.loop-k.invariant.1, unscaled c.pair_energy-sum-then-n-eq1.result c.args.shift c.pair_energy-sum-then-n-eq1.ensures.1)

pub returns-then-n-eq1 : goal.returns-then-n-eq1
unfolding pairs sample
returns-then-n-eq1 c =
    let x = c.args.x.now in
    let k = c.loop-k.k in
    let n = length x in
    let l : n - 1 ≡ 2 * k = omega arith in
    let past : get_or x (2 * k + 1) (pos 0) ≡ pos 0 = get_or-eq_default x (pos 0) (omega arith) in
    summed_all
    (summed_turn c.loop-k.invariant.1 c.pair_energy-sum-then-n-eq1.ensures ((r_elem w16 (get_or x (n - 1) (pos 0)) c.pair_energy-arg-then-n-eq1-1.given).val ∙ ap (λ i. get_or x i (pos 0)) l) (sym past))
    (omega arith)

pub returns-else-n-eq1 : goal.returns-else-n-eq1
unfolding pairs
returns-else-n-eq1 c = summed_all c.loop-k.invariant.1 (omega arith)
