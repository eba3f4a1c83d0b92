-- `stage1::scores` meets its contract, way by way: a zero divisor in the first half-frame, one half-frame, a zero divisor in the second, two half-frames.
use Rattle.std.proofs.Common.{arith, sym, ◌∙◌}
use Rattle.stage1.specs.ScoreLaws.{one_or_two, some_half, scored_zero, scored_one, scored_two}
use Rattle.stage1.proofs.scores.Goals as goal

pub returns-in_err-first : goal.returns-in_err-first
returns-in_err-first c = c.from_residual.ensures ∙ scored_zero _ _ 0 (some_half c.requires.0) (sym c.correlations.ensures ∙ c.in_err-first.was)

pub returns-then-nb_subfr-ne4 : goal.returns-then-nb_subfr-ne4
returns-then-nb_subfr-ne4 c =
    scored_one _ _ _ _ (one_or_two c.requires.0 c.if-nb_subfr-ne4.true) (sym c.correlations.ensures ∙ c.in_ok-first.was) c.combine.ensures

pub returns-in_err-second : goal.returns-in_err-second
returns-in_err-second c =
    let n = c.if-nb_subfr-ne4.false in
    c.from_residual-in_err-second.ensures ∙ scored_zero _ _ 1 (omega arith) (sym c.correlations-2.ensures ∙ c.in_err-second.was)

pub returns : goal.returns
returns c =
    scored_two _ _ _ _ _ c.if-nb_subfr-ne4.false (sym c.correlations.ensures ∙ c.in_ok-first.was) (sym c.correlations-2.ensures ∙ c.in_ok-second.was) c.combine-2.ensures
