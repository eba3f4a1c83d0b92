-- `frames::print_record` meets its contract: the record is the input's first, and what is written first is its line or its refusal.
use Rattle.std.proofs.Common.{sym, ap, ◌∙◌, subst}
use Rattle.std.specs.Io.KnownBytes.{Appends}
use Rattle.refusals.specs.Refusals.{number_told}
use Rattle.refusals.specs.RefusalsLaws.{refused_positive}
use Rattle.frames.specs.OutputLaws.{line_of, printed_none, printed_refused, printed_line}
use Rattle.frames.proofs.print_record.Goals as goal

pub returns-then-n-eq0-clause-last : goal.returns-then-n-eq0-clause-last
returns-then-n-eq0-clause-last g c = λ _ w. printed_none _ _ _ _ c.in-Ok.ensures.record (sym c.in-Ok.ensures.prefix_len.1 ∙ c.if-n-eq0.true)

pub returns-in-Ok-answer-clause-more : goal.returns-in-Ok-answer-clause-more
returns-in-Ok-answer-clause-more g c = λ _ w.
    let said = line_of _ _ _ _ _ _ c.frame_text-line.ensures.samples_after in
    let wrote = subst (Appends _ _) said.0 c.in_ok-write_output.ensures in
    printed_line _ _ _ _ _ c.in-Ok.ensures.record (λ z. c.if-n-eq0.false (c.in-Ok.ensures.prefix_len.1 ∙ z)) (sym said.1 ∙ ap number_told c.in-Ok-answer.is) wrote

pub returns-in-Err-clause-last : goal.returns-in-Err-clause-last
returns-in-Err-clause-last g c = λ _ w.
    let said = line_of _ _ _ _ _ _ c.frame_text-line.ensures.samples_after in
    let wrote = subst (Appends _ _) said.0 c.in_ok-write_output.ensures in
    printed_refused _ _ _ _ _ c.in-Ok.ensures.record (λ z. c.if-n-eq0.false (c.in-Ok.ensures.prefix_len.1 ∙ z)) (λ e. refused_positive c.in-Err.field-0 (sym (ap number_told c.in-Err.is) ∙ said.1) e) wrote
