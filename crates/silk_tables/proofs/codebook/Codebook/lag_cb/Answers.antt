-- `silk_tables::codebook::Codebook::lag_cb` meets its contract: a lookup in the table that nb chooses.
use Rattle.std.proofs.Common.{sym, ◌∙◌, arith, rules}
use Rattle.silk_tables.specs.Tables.{offset, cb_lags_stage3, cb_lags_stage3_10_ms}
use Rattle.silk_tables.specs.EntryLaws.{entry_4, entry_2, wide_is}
use Rattle.silk_tables.proofs.TableLaws.{in_use_bounds, in_use_other}
use Rattle.silk_tables.proofs.codebook.Codebook.lag_cb.Goals as goal

pub bounds-j : goal.bounds-j
bounds-j c = omega (arith, in_use_bounds c.args.self.settings)

pub bounds-j-else-self-eq-PE_MAX_NB_SUBFR : goal.bounds-j-else-self-eq-PE_MAX_NB_SUBFR
bounds-j-else-self-eq-PE_MAX_NB_SUBFR c = omega (arith, in_use_other c.args.self.nb c.args.self.complexity c.if-self-eq-PE_MAX_NB_SUBFR.false)

pub returns-then-self-eq-PE_MAX_NB_SUBFR : goal.returns-then-self-eq-PE_MAX_NB_SUBFR
unfolding offset cb_lags_stage3
returns-then-self-eq-PE_MAX_NB_SUBFR c =
    let a = c.args in
    wide_is _ (search rules) ∙ sym (entry_4 cb_lags_stage3 cb_lags_stage3_10_ms a.self.nb a.k a.j c.if-self-eq-PE_MAX_NB_SUBFR.true)

pub returns-else-self-eq-PE_MAX_NB_SUBFR : goal.returns-else-self-eq-PE_MAX_NB_SUBFR
unfolding offset cb_lags_stage3_10_ms
returns-else-self-eq-PE_MAX_NB_SUBFR c =
    let a = c.args in
    wide_is _ (search rules) ∙ sym (entry_2 cb_lags_stage3 cb_lags_stage3_10_ms a.self.nb a.k a.j c.if-self-eq-PE_MAX_NB_SUBFR.false)
