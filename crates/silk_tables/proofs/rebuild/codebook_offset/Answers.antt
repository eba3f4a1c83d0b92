-- `silk_tables::rebuild::codebook_offset` meets its contract: a lookup in the book that the rate chooses.
use Rattle.std.proofs.Common.{sym, ◌∙◌, arith, lit≤, w32}
use Rattle.zint.specs.ReadLaws.{r_got}
use Rattle.silk_tables.proofs.TableLaws.{settings_of}
use Rattle.silk_tables.specs.ContourLaws.{entries_8, entries_other, book_8, book_other}
use Rattle.silk_tables.proofs.rebuild.codebook_offset.Goals as goal

pub lag_cb_stage2-requires : goal.lag_cb_stage2-requires
lag_cb_stage2-requires c =
    let e = entries_8 c.args.fs_khz c.args.nb_subfr c.if-fs_khz-eq8.true in
    (c.requires.0, (c.requires.1.0, omega arith))

pub lag_cb-requires : goal.lag_cb-requires
lag_cb-requires c =
    let e = entries_other c.args.fs_khz c.args.nb_subfr c.if-fs_khz-eq8.false in
    (c.requires.1.0, omega arith)

pub returns-then-fs_khz-eq8 : goal.returns-then-fs_khz-eq8
returns-then-fs_khz-eq8 c =
    let a = c.args in
    (r_got w32 c.lag_cb_stage2.type_inv c.lag_cb_stage2.ensures).val ∙ sym (book_8 a.fs_khz a.nb_subfr a.k a.contour_index c.if-fs_khz-eq8.true)

pub returns-else-fs_khz-eq8 : goal.returns-else-fs_khz-eq8
returns-else-fs_khz-eq8 c =
    let a = c.args in
    (r_got w32 c.lag_cb.type_inv c.lag_cb.ensures).val ∙ sym (book_other a.fs_khz a.nb_subfr a.k a.contour_index c.if-fs_khz-eq8.false)

pub invariant_of-book : goal.invariant_of-book
invariant_of-book c = record { settings = settings_of c.requires.0 (lit≤ tt) }
