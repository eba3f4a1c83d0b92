-- `cases_io::settings_at` meets its contract: each place that is read is cut to the end.
use Rattle.std.proofs.Common.{◌≡◌, ℕ, min, length, pos, ◌∙◌, w32}
use Rattle.zint.specs.ReadLaws.{r_got}
use Rattle.cases_io.specs.Little.{u64_at, i32_at}
use Rattle.cases_io.specs.LittleLaws.{u64_past, i32_past, at_cut}
use Rattle.cases_io.proofs.settings_at.Goals as goal

pub returns : goal.returns
returns c =
    let t1 = c.before.before in
    let co = t1.before.before in
    let nb = co.before.before in
    let b = nb.args.bytes.now in
    let N : (place from : ℕ) → from ≡ min place (length b) → u64_at b from ≡ u64_at b place = at_cut 0 (u64_at b) (length b) (u64_past b) in
    let Z : (place from : ℕ) → from ≡ min place (length b) → i32_at b from ≡ i32_at b place = at_cut (pos 0) (i32_at b) (length b) (i32_past b) in (
      nb.usize_at.ensures,
      nb.usize_at-2.ensures ∙ N _ _ nb.skip.ensures,
      co.usize_at-3.ensures ∙ N _ _ co.skip-2.ensures,
      (r_got w32 t1.i32_at.type_inv (t1.i32_at.ensures ∙ Z _ _ t1.skip-3.ensures)).val,
      (r_got w32 c.i32_at-2.type_inv (c.i32_at-2.ensures ∙ Z _ _ c.skip-4.ensures)).val,
    )
