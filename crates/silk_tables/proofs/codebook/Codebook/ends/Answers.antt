-- `silk_tables::codebook::Codebook::ends` meets its contract: a lookup in the table that nb chooses.
use Rattle.std.proofs.Common.{sym}
use Rattle.silk_tables.specs.Tables.{lag_range_stage3, lag_range_stage3_10_ms}
use Rattle.silk_tables.proofs.TableLaws.{range_4, range_other}
use Rattle.silk_tables.proofs.codebook.Codebook.ends.Goals as goal

pub returns-then-self-eq-PE_MAX_NB_SUBFR : goal.returns-then-self-eq-PE_MAX_NB_SUBFR
unfolding lag_range_stage3
returns-then-self-eq-PE_MAX_NB_SUBFR c = let a = c.args in sym (range_4 a.self.nb a.self.complexity a.k c.if-self-eq-PE_MAX_NB_SUBFR.true)

pub returns-else-self-eq-PE_MAX_NB_SUBFR : goal.returns-else-self-eq-PE_MAX_NB_SUBFR
unfolding lag_range_stage3_10_ms
returns-else-self-eq-PE_MAX_NB_SUBFR c = let a = c.args in sym (range_other a.self.nb a.self.complexity a.k c.if-self-eq-PE_MAX_NB_SUBFR.false)
