-- `pitch_track::row_type` meets its contract: the test says which case of `row_type` holds.
use Rattle.std.proofs.Common.{pos, w32, SFits, to_z, of_z, sym, ap, ◌∙◌, rules}
use Rattle.zint.specs.EqualLaws.{eq_z_yes, eq_z_no}
use Rattle.zint.specs.ReadLaws.{r_var}
use Rattle.pitch_track.proofs.row_type.Goals as goal

pub returns-then-r-eq0 : goal.returns-then-r-eq0
returns-then-r-eq0 c =
    let f : SFits w32 c.args.r.verdict = search rules in
    let e = sym (r_var f).val ∙ ap (to_z w32) c.if-r-eq0.true in
    rw (eq_z_yes e)

pub returns-else-r-eq0 : goal.returns-else-r-eq0
returns-else-r-eq0 c = rw (eq_z_no {y = pos 0} (λ k. c.if-r-eq0.false (ap (of_z w32) k)))
