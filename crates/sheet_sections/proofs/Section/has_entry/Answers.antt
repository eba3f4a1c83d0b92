-- `Section::has_entry` meets its contract: the bits of a verdict are compared with 0.
use Rattle.std.proofs.Common.{◌≡◌, refl, rules, ⊎_elim, sym, ◌∙◌, ap, SFits, of_z, to_z, ◌==◌, ℤ, pos, w32}
use Rattle.std.proofs.lemmas.Bool.Decides.{same_from_decides, Decides-eqb}
use Rattle.zint.specs.Equal.{eq_z}
use Rattle.zint.specs.EqualLaws.{eq_z_yes, eq_z_true}
use Rattle.zint.specs.ReadLaws.{r_var}
use Rattle.sheet_sections.specs.Sheet.{has_entry}
use Rattle.sheet_sections.proofs.Section.has_entry.Goals as goal

-- a verdict whose bits are compared with 0
nought : {z : ℤ} → SFits w32 z → (of_z w32 z == 0) ≡ eq_z z (pos 0)
nought {z} f = same_from_decides (of_z w32 z == 0) (eq_z z (pos 0)) (Decides-eqb (of_z w32 z) 0) (λ h. ap (of_z w32) (eq_z_true z (pos 0) h), λ e. eq_z_yes (sym (r_var f).val ∙ ap (to_z w32) e))

pub returns-in-Verdicts : goal.returns-in-Verdicts
unfolding has_entry
returns-in-Verdicts c = rw c.in-Verdicts.is refl

pub returns-in-Pairs : goal.returns-in-Pairs
unfolding has_entry
returns-in-Pairs c = let f : SFits w32 c.args.r.verdict = search rules in ⊎_elim (λ e. rw e (nought f)) (λ e. rw e (nought f)) c.in-Pairs.is
