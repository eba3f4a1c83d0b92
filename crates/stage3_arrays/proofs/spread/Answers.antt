-- `stage3_arrays::spread` meets its contract. The invariant: the contours below i are filled.
use Rattle.std.proofs.Common.{◌≡◌, ap, ap₂, ◌∙◌, ℕ, ◌+◌, ℤ, pos, nat_abs, ◌-ℤ◌, length, get_or, replicate, w8, w32, to_z, of_z, arith}
use Rattle.zint.specs.ReadLaws.{r_var}
use Rattle.zint.specs.RuleLaws.{zneeds}
use Rattle.lists.specs.Fill.{tabulate, filled}
use Rattle.lists.specs.FillLaws.{filled_none, filled_turn}
use Rattle.stage3_arrays.specs.Arrays.{subframe_array}
use Rattle.stage3_arrays.proofs.spread.Invariants.{five_of}
use Rattle.stage3_arrays.proofs.spread.Goals as goal

pub loop-i-init : goal.loop-i-init
loop-i-init c = filled_none _ _

pub loop-i-preserved : goal.loop-i-preserved
loop-i-preserved c =
    let a = c.args in
    let i = c.loop-i.i in
    let x = get_or a.offsets.now i (pos 0) in
    let l = to_z w32 (of_z w32 a.low) in
    let e : to_z w8 (of_z w8 x) ≡ x = search zneeds in
    let v = c.five.ensures ∙ ap (λ (p : ℕ). tabulate (λ (m : ℕ). get_or a.scratch_mem.now (p + m) (pos 0)) 5) (c.offset_place.ensures ∙ ap (λ (y : ℤ). nat_abs (y -ℤ l)) e) in
    filled_turn (five_of a.scratch_mem.now a.offsets.now l) i (replicate 34 (replicate 5 (pos 0))) c.loop-i.invariant v (omega arith)

pub returns : goal.returns
unfolding subframe_array
returns c =
    let a = c.args in
    let e : c.loop-i.i ≡ length a.offsets.now = omega arith in
    c.loop-i.invariant ∙ ap₂ (λ (l : ℤ) (n : ℕ). filled (five_of a.scratch_mem.now a.offsets.now l) n (replicate 34 (replicate 5 (pos 0)))) (r_var c.ranges.low).val e
