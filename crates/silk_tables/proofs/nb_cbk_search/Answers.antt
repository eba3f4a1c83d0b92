-- `silk_tables::nb_cbk_search` meets its contract.
use Rattle.std.proofs.Common.{sym}
use Rattle.silk_tables.proofs.TableLaws.{in_use_4, in_use_other}
use Rattle.silk_tables.proofs.nb_cbk_search.Goals as goal

pub returns-then-nb_subfr-eq-PE_MAX_NB_SUBFR : goal.returns-then-nb_subfr-eq-PE_MAX_NB_SUBFR
returns-then-nb_subfr-eq-PE_MAX_NB_SUBFR c = sym (in_use_4 c.args.nb_subfr c.args.complexity c.if-nb_subfr-eq-PE_MAX_NB_SUBFR.true)

pub returns-else-nb_subfr-eq-PE_MAX_NB_SUBFR : goal.returns-else-nb_subfr-eq-PE_MAX_NB_SUBFR
returns-else-nb_subfr-eq-PE_MAX_NB_SUBFR c = sym (in_use_other c.args.nb_subfr c.args.complexity c.if-nb_subfr-eq-PE_MAX_NB_SUBFR.false)
