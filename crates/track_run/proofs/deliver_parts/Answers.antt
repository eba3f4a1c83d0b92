-- `track_run::deliver_parts` meets its contract: a turn delivers the next part, and at the end nothing is left.
use Rattle.std.proofs.Common.{sym, ap, subst, ◌∙◌, arith, length-set, length-drop, drop-drop, ◌≡◌, ℕ, ◌+◌, ◌-◌, ◌≤◌, ◌<◌, min, List, ℤ, length, get_or, take, drop}
use Rattle.std.proofs.lemmas.List.{take_min, drop_min}
use Rattle.track_chain.specs.Chain.{Left, chain}
use Rattle.track_run.specs.Run.{parts}
use Rattle.track_run.proofs.Ahead.{Ahead, ahead_all, chain_none, turn}
use Rattle.track_run.proofs.deliver_parts.Goals as goal

-- the part of n samples that is delivered from `at` on, and what follows it
module _ (samples : List ℤ) (at cut n : ℕ) (h : at ≤ length samples) (e : n ≡ min cut (length samples - at)) where
  size : n ≡ min cut (length (drop at samples))
  size = e ∙ ap (min cut) (sym (length-drop at samples))

  within : at + n ≤ length samples
  within = omega (arith, e)

  part_is : take (at + n - at) (drop at samples) ≡ take cut (drop at samples)
  part_is =
      let m : at + n - at ≡ min cut (length (drop at samples)) = omega (arith, size) in
      ap (λ (k : ℕ). take k (drop at samples)) m ∙ take_min cut (drop at samples)

  rest_is : drop (at + n) samples ≡ drop cut (drop at samples)
  rest_is = sym (drop-drop n at samples) ∙ ap (λ (m : ℕ). drop m (drop at samples)) size ∙ drop_min cut (drop at samples)

pub loop-i-preserved : goal.loop-i-preserved
loop-i-preserved c =
    let a = c.args in
    let l = c.loop-i in
    let d = c.deliver-d in
    let hc : c.loop-i.i < length a.cuts.now = omega (arith, c.loop-i-test.true) in
    let hs : c.loop-i.i < length c.loop-i.said = omega (arith, c.loop-i.invariant.2, c.requires, c.loop-i-test.true) in
    let n : c.min.result ≡ min (get_or a.cuts.now c.loop-i.i 0) (length a.samples.now - c.loop-i.at) = omega (arith, c.min.ensures) in
    let cut = get_or a.cuts.now l.i 0 in (
      within a.samples.now l.at cut c.min.result l.invariant.0 n,
      d.auto.table ∙ l.invariant.1,
      length-set l.said l.i d.result.answer ∙ l.invariant.2,
      turn (chain a.track a.table.now (parts a.cuts.now a.samples.now)) a.cuts.now l.i l.track l.table (drop l.at a.samples.now)
          (take (l.at + c.min.result - l.at) (drop l.at a.samples.now)) (drop (l.at + c.min.result) a.samples.now) l.said d.result d.new.table
          hc hs
          (part_is a.samples.now l.at cut c.min.result l.invariant.0 n) (rest_is a.samples.now l.at cut c.min.result l.invariant.0 n)
          d.ensures.table_after l.invariant.3,
    )

pub returns : goal.returns
returns c =
    let a = c.args in
    let l = c.loop-i in
    let whole : Left = chain a.track a.table.now (parts a.cuts.now a.samples.now) in
    let hc : length a.cuts.now ≤ c.loop-i.i = omega (arith, c.loop-i-test.false) in
    let hs : length c.loop-i.said ≤ c.loop-i.i = omega (arith, c.loop-i.invariant.2, c.requires, c.loop-i-test.false) in
    let o = ahead_all whole l.said l.track l.table l.i hs (subst (λ (b : Left). Ahead whole l.said l.i b) (chain_none a.cuts.now l.i hc l.track l.table (drop l.at a.samples.now)) l.invariant.3) in
    record { value = o.0; said_after = o.1.0; table_after = o.1.1 }
