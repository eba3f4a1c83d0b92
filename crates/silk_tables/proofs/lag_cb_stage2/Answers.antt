-- `silk_tables::lag_cb_stage2` meets its contract: a lookup in the table that nb chooses.
use Rattle.std.proofs.Common.{sym, ◌∙◌, arith, rules}
use Rattle.silk_tables.specs.Tables.{offset2, cb_lags_stage2, cb_lags_stage2_10_ms}
use Rattle.silk_tables.specs.EntryLaws.{entry_4, entry_2, wide_is}
use Rattle.silk_tables.proofs.TableLaws.{two_or}
use Rattle.silk_tables.specs.Stage2Laws.{entries2_4, entries2_other}
use Rattle.silk_tables.proofs.lag_cb_stage2.Goals as goal

pub bounds-j : goal.bounds-j
bounds-j c = omega (arith, entries2_4 c.args.nb_subfr c.if-nb_subfr-eq-PE_MAX_NB_SUBFR.true)

pub offset_bounds-k-else-nb_subfr-eq-PE_MAX_NB_SUBFR : goal.offset_bounds-k-else-nb_subfr-eq-PE_MAX_NB_SUBFR
offset_bounds-k-else-nb_subfr-eq-PE_MAX_NB_SUBFR c = omega (arith, two_or c.requires.0 c.if-nb_subfr-eq-PE_MAX_NB_SUBFR.false)

pub bounds-k-else-nb_subfr-eq-PE_MAX_NB_SUBFR : goal.bounds-k-else-nb_subfr-eq-PE_MAX_NB_SUBFR
bounds-k-else-nb_subfr-eq-PE_MAX_NB_SUBFR c = omega (arith, two_or c.requires.0 c.if-nb_subfr-eq-PE_MAX_NB_SUBFR.false)

pub bounds-j-else-nb_subfr-eq-PE_MAX_NB_SUBFR : goal.bounds-j-else-nb_subfr-eq-PE_MAX_NB_SUBFR
bounds-j-else-nb_subfr-eq-PE_MAX_NB_SUBFR c = omega (arith, entries2_other c.args.nb_subfr c.if-nb_subfr-eq-PE_MAX_NB_SUBFR.false)

pub returns-then-nb_subfr-eq-PE_MAX_NB_SUBFR : goal.returns-then-nb_subfr-eq-PE_MAX_NB_SUBFR
unfolding offset2 cb_lags_stage2
returns-then-nb_subfr-eq-PE_MAX_NB_SUBFR c =
    let a = c.args in
    wide_is _ (search rules) ∙ sym (entry_4 cb_lags_stage2 cb_lags_stage2_10_ms a.nb_subfr a.k a.j c.if-nb_subfr-eq-PE_MAX_NB_SUBFR.true)

pub returns-else-nb_subfr-eq-PE_MAX_NB_SUBFR : goal.returns-else-nb_subfr-eq-PE_MAX_NB_SUBFR
unfolding offset2 cb_lags_stage2_10_ms
returns-else-nb_subfr-eq-PE_MAX_NB_SUBFR c =
    let a = c.args in
    wide_is _ (search rules) ∙ sym (entry_2 cb_lags_stage2 cb_lags_stage2_10_ms a.nb_subfr a.k a.j c.if-nb_subfr-eq-PE_MAX_NB_SUBFR.false)
