-- `stage2::Search8khz::best_contour` meets its contract.
use Rattle.std.proofs.Common.{◌≡◌, sym, subst, subst₂, ℕ, ◌+◌, arith, w32, to_z}
use Rattle.zint.specs.ReadLaws.{r_got}
use Rattle.zint.specs.TestLaws.{lt_true, lt_false}
use Rattle.stage2.specs.Search.{at2}
use Rattle.stage2.specs.SearchLaws.{Leads, leads_first, leads_over, leads_under, leads_all}
use Rattle.stage2.proofs.Search8khz.best_contour.Goals as goal
use Rattle.stage2.proofs.Search8khz.best_contour.Goals.{then-cc-cc0_max_new, else-cc-cc0_max_new}

pub contour_sum-cc0_max_new-requires : goal.contour_sum-cc0_max_new-requires
contour_sum-cc0_max_new-requires c = (c.requires.0, (c.requires.1, omega arith))

pub loop-i-init : goal.loop-i-init
loop-i-init c = let f = c.contour_sum-cc0_max_new in (omega arith, (omega arith, leads_first _ _ _ _ (r_got w32 f.type_inv f.ensures).val))

pub contour_sum-cc-requires : goal.contour_sum-cc-requires
contour_sum-cc-requires c = (c.requires.0, (c.requires.1, omega arith))

pub loop-i-preserved : goal.loop-i-preserved
loop-i-preserved c =
    let f = c.contour_sum-cc in
    let a = c.args in
    let r = (r_got w32 f.type_inv f.ensures).val in
    let l = c.loop-i.invariant.1.1 in
    let g = Leads (at2 a.self.now.c_8khz.now) a.self.now.by.nb a.d (c.loop-i.i + 1) in (
      omega arith,
      (
        omega arith,
        elim c.if-cc-cc0_max_new.branch [
          | then-cc-cc0_max_new w ↦ subst₂ g (sym w.cc0_max_new-is) (sym w.cb_i_max_new-is) (leads_over _ _ _ l _ r (lt_true _ _ w.if-cc-cc0_max_new.true))
          | else-cc-cc0_max_new w ↦ subst₂ g (sym w.cc0_max_new-is) (sym w.cb_i_max_new-is) (leads_under _ _ _ l _ r (lt_false _ _ w.if-cc-cc0_max_new.false))
        ],
      ),
    )

pub returns : goal.returns
returns c =
    let a = c.args in
    let e : c.loop-i.i ≡ a.self.now.by.contours = omega arith in
    leads_all (at2 a.self.now.c_8khz.now) a.self.now.by.nb a.d a.self.now.by.contours (to_z w32 c.loop-i.cc0_max_new-bits) c.loop-i.cb_i_max_new
    (subst (λ (n : ℕ). Leads (at2 a.self.now.c_8khz.now) a.self.now.by.nb a.d n (to_z w32 c.loop-i.cc0_max_new-bits) c.loop-i.cb_i_max_new) e c.loop-i.invariant.1.1)
