-- `pitch_table::put_row` meets its contract: a part of the table is overwritten.
use Rattle.std.proofs.Common.{◌≡◌, sym, arith, ◌∙◌, ap, append_assoc, ℕ, ℤ, List, ◌+◌, ◌-◌, ◌*◌, ◌++◌, ◌≤◌, length, take, drop, drop-drop}
use Rattle.std.proofs.lemmas.List.Edits.{sets, sets-eq}
use Rattle.pitch_table.specs.Row.{row_size, numbers}
use Rattle.pitch_table.proofs.put_row.Goals as goal

-- what a part of a slice leaves when ys are copied over it
part_sets : (t ys : List ℤ) (a k : ℕ) → k ≡ length ys → a + length ys ≤ length t → take a t ++ (ys ++ drop k (drop a t)) ≡ sets t a ys
part_sets t ys a k e h =
    let n : a + k ≡ a + length ys = omega arith in
    ap (λ (xs : List ℤ). take a t ++ (ys ++ xs)) (drop-drop k a t ∙ ap (λ (n : ℕ). drop n t) n) ∙ sym (append_assoc (take a t) ys (drop (a + length ys) t)) ∙ sym (sets-eq ys t a h)

pub returns : goal.returns
returns c =
    let t = c.args.table.now in
    let at = c.args.i * row_size in
    ap (λ (ys : List ℤ). take at t ++ (ys ++ drop (at + row_size - at) (drop at t))) (c.copy_from_slice.ensures.after ∙ c.numbers.ensures)
    ∙ part_sets t (numbers c.args.r) at (at + row_size - at) (omega arith) (omega (arith, c.requires))
