-- `stage3_arrays::five` meets its contract.
use Rattle.std.proofs.Common.{◌≡◌, sym, ap, ◌∙◌, List, ℕ, ◌+◌, ◌-◌, ◌≤◌, ℤ, pos, length, get_or, drop, take, get_or-take, get_or-drop, length-take, length-drop, arith}
use Rattle.lists.specs.Fill.{tabulate}
use Rattle.lists.specs.FillLaws.{tabulate_is}
use Rattle.stage3_arrays.proofs.five.Goals as goal

-- five places of a list
part : (l : List ℤ) (i : ℕ) → i + 5 ≤ length l → take 5 (drop i l) ≡ tabulate (λ (m : ℕ). get_or l (i + m) (pos 0)) 5
part l i h =
    sym (tabulate_is _ 5 (take 5 (drop i l)) (pos 0) (omega (arith, length-take 5 (drop i l), length-drop i l)) (λ m g. sym (get_or-take 5 (drop i l) m (pos 0) g ∙ get_or-drop i l m (pos 0))))

pub returns : goal.returns
returns c =
    let l = c.args.scratch_mem.now in
    let i = c.args.idx in
    let e : i + 5 - i ≡ 5 = omega arith in
    c.copy_from_slice.ensures.after ∙ ap (λ (n : ℕ). take n (drop i l)) e ∙ part l i (omega (arith, c.told-scratch_mem))
