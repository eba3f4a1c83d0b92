-- `silk_tables::rebuild::pair_carried` meets its contract: each `&&` of the code is one of the definition.
use Rattle.std.proofs.Common.{◌≡◌, sym, ap, ap₂, ◌∙◌, ◌&&◌, arith, pos, w32}
use Rattle.std.specs.Int.Signed.{le_z, lt_z}
use Rattle.zint.specs.ReadLaws.{r_nat, r_as, r_var}
use Rattle.zint.specs.BoolLaws.{and_yes, and_no}
use Rattle.silk_tables.specs.Tables.{greatest_index, contours}
use Rattle.silk_tables.specs.Rebuild.{carried}
use Rattle.silk_tables.specs.ContourLaws.{greatest_le, contours_le_34}
use Rattle.silk_tables.proofs.rebuild.pair_carried.Goals as goal
use Rattle.silk_tables.proofs.rebuild.pair_carried.Goals.{then-lag_index-ge0, else-lag_index-ge0, then-lag_index-greatest, else-lag_index-greatest}

pub overflow_cast-greatest : goal.overflow_cast-greatest
overflow_cast-greatest c = record { sfits = omega (arith, c.greatest_index-greatest.ensures, greatest_le c.args.fs_khz) }

pub overflow_cast-contours : goal.overflow_cast-contours
overflow_cast-contours c =
    let a = c.args in
    record { sfits = omega (arith, c.contours_in_use-contours.ensures, contours_le_34 a.fs_khz a.nb_subfr a.complexity) }

pub returns-then-contour_index-ge0 : goal.returns-then-contour_index-ge0
unfolding carried
returns-then-contour_index-ge0 c =
    let a = c.args in
    let i = r_var c.ranges.lag_index in
    let g = r_as (r_nat w32 c.greatest_index-greatest.result (omega (arith, greatest_le a.fs_khz))) (ap pos c.greatest_index-greatest.ensures) in
    let within : c.if-lag_index-ge0.value ≡ (le_z (pos 0) a.lag_index && le_z a.lag_index (pos (greatest_index a.fs_khz))) =
    elim c.if-lag_index-ge0.branch [
      | then-lag_index-ge0 w ↦ and_yes (sym (ap (le_z (pos 0)) i.val) ∙ w.if-lag_index-ge0.true) (w.value-is ∙ ap₂ le_z i.val g.val)
      | else-lag_index-ge0 w ↦ and_no (le_z a.lag_index (pos (greatest_index a.fs_khz))) (sym (ap (le_z (pos 0)) i.val) ∙ w.if-lag_index-ge0.false) (w.value-is ∙ ap (le_z (pos 0)) i.val)
    ]
    in
    let from : c.if-lag_index-greatest.value ≡ (le_z (pos 0) a.lag_index && le_z a.lag_index (pos (greatest_index a.fs_khz)) && le_z (pos 0) a.contour_index) =
    elim c.if-lag_index-greatest.branch [
      | then-lag_index-greatest w ↦ and_yes (sym within ∙ w.if-lag_index-greatest.true) (w.value-is ∙ ap (le_z (pos 0)) (r_var c.ranges.contour_index).val)
      | else-lag_index-greatest w ↦ and_no (le_z (pos 0) a.contour_index) (sym within ∙ w.if-lag_index-greatest.false) (w.value-is ∙ within)
    ]
    in
    let n = r_as (r_nat w32 c.contours_in_use-contours.result (omega (arith, contours_le_34 a.fs_khz a.nb_subfr a.complexity))) (ap pos c.contours_in_use-contours.ensures) in
    and_yes (sym from ∙ c.if-contour_index-ge0.true) (ap₂ lt_z (r_var c.ranges.contour_index).val n.val)

pub returns-else-contour_index-ge0 : goal.returns-else-contour_index-ge0
unfolding carried
returns-else-contour_index-ge0 c =
    let a = c.args in
    let i = r_var c.ranges.lag_index in
    let g = r_as (r_nat w32 c.greatest_index-greatest.result (omega (arith, greatest_le a.fs_khz))) (ap pos c.greatest_index-greatest.ensures) in
    let within : c.if-lag_index-ge0.value ≡ (le_z (pos 0) a.lag_index && le_z a.lag_index (pos (greatest_index a.fs_khz))) =
    elim c.if-lag_index-ge0.branch [
      | then-lag_index-ge0 w ↦ and_yes (sym (ap (le_z (pos 0)) i.val) ∙ w.if-lag_index-ge0.true) (w.value-is ∙ ap₂ le_z i.val g.val)
      | else-lag_index-ge0 w ↦ and_no (le_z a.lag_index (pos (greatest_index a.fs_khz))) (sym (ap (le_z (pos 0)) i.val) ∙ w.if-lag_index-ge0.false) (w.value-is ∙ ap (le_z (pos 0)) i.val)
    ]
    in
    let from : c.if-lag_index-greatest.value ≡ (le_z (pos 0) a.lag_index && le_z a.lag_index (pos (greatest_index a.fs_khz)) && le_z (pos 0) a.contour_index) =
    elim c.if-lag_index-greatest.branch [
      | then-lag_index-greatest w ↦ and_yes (sym within ∙ w.if-lag_index-greatest.true) (w.value-is ∙ ap (le_z (pos 0)) (r_var c.ranges.contour_index).val)
      | else-lag_index-greatest w ↦ and_no (le_z (pos 0) a.contour_index) (sym within ∙ w.if-lag_index-greatest.false) (w.value-is ∙ within)
    ]
    in
    and_no (lt_z a.contour_index (pos (contours a.fs_khz a.nb_subfr a.complexity))) (sym from ∙ c.if-contour_index-ge0.false) from
