-- `silk_tables::codebook::Codebook::row` meets its contract: a row of either table is the offsets of its contours.
use Rattle.std.proofs.Common.{sym, ap, ◌∙◌, List, ◌++◌, ℕ, ℤ, pos, replicate, arith}
use Rattle.lists.specs.Fill.{tabulate}
use Rattle.silk_tables.specs.Tables.{offset, cb_lags_stage3, cb_lags_stage3_10_ms}
use Rattle.silk_tables.specs.RowLaws.{row_20_ms, padded_10_ms}
use Rattle.silk_tables.proofs.TableLaws.{two_of}
use Rattle.silk_tables.proofs.codebook.Codebook.row.Goals as goal

pub returns-then-self-eq-PE_MAX_NB_SUBFR : goal.returns-then-self-eq-PE_MAX_NB_SUBFR
unfolding cb_lags_stage3
returns-then-self-eq-PE_MAX_NB_SUBFR c =
    let e = c.if-self-eq-PE_MAX_NB_SUBFR.true in
    sym (row_20_ms c.args.k (omega arith)) ∙ sym (ap (λ (n : ℕ). tabulate (offset n c.args.k) 34) e)

pub returns : goal.returns
unfolding cb_lags_stage3_10_ms
returns c =
    let e = two_of c.args.self.settings c.if-self-eq-PE_MAX_NB_SUBFR.false in
    ap (λ (l : List ℤ). l ++ replicate 22 (pos 0)) c.copy_from_slice.ensures.after
    ∙ sym (padded_10_ms c.args.k (omega arith)) ∙ sym (ap (λ (n : ℕ). tabulate (offset n c.args.k) 34) e)
