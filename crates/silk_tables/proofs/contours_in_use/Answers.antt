-- `silk_tables::contours_in_use` meets its contract: the last stage's count.
use Rattle.std.proofs.Common.{sym, ◌∙◌}
use Rattle.silk_tables.specs.ContourLaws.{contours_8, contours_other}
use Rattle.silk_tables.proofs.contours_in_use.Goals as goal

pub returns-then-fs_khz-eq8 : goal.returns-then-fs_khz-eq8
returns-then-fs_khz-eq8 c =
    let a = c.args in
    c.nb_cbk_search_stage2.ensures ∙ sym (contours_8 a.fs_khz a.nb_subfr a.complexity c.if-fs_khz-eq8.true)

pub returns-else-fs_khz-eq8 : goal.returns-else-fs_khz-eq8
returns-else-fs_khz-eq8 c =
    let a = c.args in
    c.nb_cbk_search.ensures ∙ sym (contours_other a.fs_khz a.nb_subfr a.complexity c.if-fs_khz-eq8.false)
