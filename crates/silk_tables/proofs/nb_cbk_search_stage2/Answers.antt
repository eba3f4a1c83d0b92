-- `silk_tables::nb_cbk_search_stage2` meets its contract: the count by the code's three tests.
use Rattle.std.proofs.Common.{refl, sym, eq-eqb, ne_eqb, lt-ltb, le-ltb}
use Rattle.silk_tables.specs.Stage2Laws.{contours2_by, contours2_other}
use Rattle.silk_tables.proofs.nb_cbk_search_stage2.Goals as goal
use Rattle.silk_tables.proofs.nb_cbk_search_stage2.Goals.{else-fs_khz-eq8-via-then-fs_khz-eq8+else-complexity-gt-SILK_PE_MIN_COMPLEX, else-fs_khz-eq8-via-else-fs_khz-eq8}

pub returns-then-complexity-gt-SILK_PE_MIN_COMPLEX : goal.returns-then-complexity-gt-SILK_PE_MIN_COMPLEX
returns-then-complexity-gt-SILK_PE_MIN_COMPLEX c =
    let a = c.args in
    sym (contours2_by a.fs_khz a.nb_subfr a.complexity (eq-eqb a.fs_khz 8 c.if-fs_khz-eq8.true) (eq-eqb a.nb_subfr 4 c.if-nb_subfr-eq-PE_MAX_NB_SUBFR.true) (lt-ltb 0 a.complexity c.if-complexity-gt-SILK_PE_MIN_COMPLEX.true))

pub returns-else-fs_khz-eq8 : goal.returns-else-fs_khz-eq8
returns-else-fs_khz-eq8 c =
    let a = c.args in
    let four = eq-eqb a.nb_subfr 4 c.if-nb_subfr-eq-PE_MAX_NB_SUBFR.true in
    elim c.else-fs_khz-eq8.branch [
      | else-fs_khz-eq8-via-then-fs_khz-eq8+else-complexity-gt-SILK_PE_MIN_COMPLEX w ↦
          sym (contours2_by a.fs_khz a.nb_subfr a.complexity (eq-eqb a.fs_khz 8 w.if-fs_khz-eq8.true) four (le-ltb 0 a.complexity w.if-complexity-gt-SILK_PE_MIN_COMPLEX.false))
      | else-fs_khz-eq8-via-else-fs_khz-eq8 w ↦ sym (contours2_by a.fs_khz a.nb_subfr a.complexity (ne_eqb a.fs_khz 8 w.if-fs_khz-eq8.false) four refl)
    ]

pub returns-else-nb_subfr-eq-PE_MAX_NB_SUBFR : goal.returns-else-nb_subfr-eq-PE_MAX_NB_SUBFR
returns-else-nb_subfr-eq-PE_MAX_NB_SUBFR c = let a = c.args in sym (contours2_other a.fs_khz a.nb_subfr a.complexity c.if-nb_subfr-eq-PE_MAX_NB_SUBFR.false)
