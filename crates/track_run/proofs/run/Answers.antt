-- `track_run::run` meets its contract: with settings that are accepted it is the chain of the deliveries that have a place, and else the start alone.
use Rattle.std.proofs.Common.{sym, ap, ◌∙◌, arith, ◌≡◌, Result, ℕ, min, List, ◌++◌, ℤ, length, take, drop}
use Rattle.std.proofs.lemmas.List.{take_min}
use Rattle.refusals.specs.declared.Refusal.{Refusal}
use Rattle.refusals.specs.Refusals.{told}
use Rattle.refusals.specs.RefusalsLaws.{refused_positive}
use Rattle.track_settings.specs.declared.TrackSettings.{TrackSettings}
use Rattle.track_paper.specs.Paper.{answer_no}
use Rattle.pitch_track.specs.declared.Track.{Track}
use Rattle.pitch_track.specs.declared.Answered.{Answered}
use Rattle.pitch_track.specs.Step.{Said, said as said_by, start_no, start_call}
use Rattle.pitch_track.proofs.Deliver.{start_number}
use Rattle.track_chain.specs.Chain.{Left, chain, run_from_start}
use Rattle.track_run.specs.Run.{parts, deliveries, told_all, run_outcome, run_call, EndsOnPaper}
use Rattle.track_run.proofs.Ahead.{made_parts, length_made, ran, ends, refused}
use Rattle.track_run.proofs.run.Goals as goal

-- the number that the start said
number_is : (k : TrackSettings) (r : Answered) → said_by r ≡ start_call k → answer_no (told r.answer) ≡ start_no k
number_is k r e = ap (λ (q : Said). answer_no q.answer) e ∙ start_number k

-- the deliveries that are made: the first n cuts, of those that have a place
module _ (k : TrackSettings) (table : List ℤ) (cuts : List ℕ) (samples : List ℤ) (said : List (Result ℕ Refusal)) (n : ℕ) (e : n ≡ min (length said) (length cuts)) (begun : Answered)
    (value : said_by begun ≡ start_call k) (ok : start_no k ≡ 0) where
  all : n ≡ length (deliveries k cuts samples (length said))
  all = e ∙ sym (length_made k table cuts samples said ok)

  parts_are : parts (take n cuts) samples ≡ deliveries k cuts samples (length said)
  parts_are =
      ap (λ (l : List ℕ). parts l samples) (ap (λ (m : ℕ). take m cuts) e ∙ take_min (length said) cuts)
      ∙ sym (made_parts k table cuts samples said ok)

  -- the chain of them
  chain_is : chain begun.track table (parts (take n cuts) samples) ≡ run_from_start k table (deliveries k cuts samples (length said))
  chain_is = λ i. chain (value i).track table (parts_are i)

  module _ (last : Track) (front : List (Result ℕ Refusal)) (after : List ℤ)
      (track : last ≡ (chain begun.track table (parts (take n cuts) samples)).track)
      (answers : told_all front ≡ (chain begun.track table (parts (take n cuts) samples)).said)
      (rows : after ≡ (chain begun.track table (parts (take n cuts) samples)).table) where
    abbrev r : Answered
    r = record { answer = begun.answer; track = last }

    outcome_is : run_outcome (record { answer = begun.answer; track = last }) (front ++ drop n said) after ≡ run_call k table (deliveries k cuts samples (length said)) said
    outcome_is =
        ran k table cuts samples said ok n all r front after (ap (λ (q : Said). q.answer) value)
        (track ∙ ap (λ (l : Left). l.track) chain_is) (answers ∙ ap (λ (l : Left). l.said) chain_is) (rows ∙ ap (λ (l : Left). l.table) chain_is)

    on_paper : EndsOnPaper k table (deliveries k cuts samples (length said)) (front ++ drop n said) (record { answer = begun.answer; track = last }) after
    on_paper =
        ends k table cuts samples said ok n all r front after (ap (λ (q : Said). q.answer) value)
        (track ∙ ap (λ (l : Left). l.track) chain_is) (answers ∙ ap (λ (l : Left). l.said) chain_is) (rows ∙ ap (λ (l : Left). l.table) chain_is)

pub returns-in_default-clause-table_after : goal.returns-in_default-clause-table_after
returns-in_default-clause-table_after c =
    let a = c.args in
    let r = c.start-started.result in
    let e = c.start-started.ensures.value in
    let is = ap (λ (o : Result ℕ Refusal). answer_no (told o)) c.in_default.is in
    let wrong = refused_positive c.in_default.field-0 (sym is ∙ number_is a.k r e) in
    refused a.k a.table.now a.cuts.now a.samples.now a.said.now wrong r (ap (λ (q : Said). q.answer) e) (ap (λ (q : Said). q.track) e)

pub returns-clause-table_after : goal.returns-clause-table_after
returns-clause-table_after c =
    let a = c.args in
    let r = c.start-started.result in
    let e = c.start-started.ensures.value in
    let ok : start_no a.k ≡ 0 = sym (number_is a.k r e) ∙ ap (λ (o : Result ℕ Refusal). answer_no (told o)) c.in-Ok.is in
    let n : c.min-n.result ≡ min (length a.said.now) (length a.cuts.now) = omega (arith, c.min-n.ensures) in
    let o = c.deliver_parts-track in
    outcome_is a.k a.table.now a.cuts.now a.samples.now a.said.now c.min-n.result n r e ok o.result o.new.said o.new.table o.ensures.value o.ensures.said_after o.ensures.table_after

pub returns-clause-ends_on_paper : goal.returns-clause-ends_on_paper
returns-clause-ends_on_paper c =
    let a = c.args in
    let r = c.start-started.result in
    let e = c.start-started.ensures.value in
    let ok : start_no a.k ≡ 0 = sym (number_is a.k r e) ∙ ap (λ (o : Result ℕ Refusal). answer_no (told o)) c.in-Ok.is in
    let n : c.min-n.result ≡ min (length a.said.now) (length a.cuts.now) = omega (arith, c.min-n.ensures) in
    let o = c.deliver_parts-track in
    on_paper a.k a.table.now a.cuts.now a.samples.now a.said.now c.min-n.result n r e ok o.result o.new.said o.new.table o.ensures.value o.ensures.said_after o.ensures.table_after
