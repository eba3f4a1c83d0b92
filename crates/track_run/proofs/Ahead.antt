-- The laws of a run: what is left of a chain while it goes on, and what it has left at its end.
use Rattle.std.proofs.Common.{sym, ap, subst, ◌∙◌, add-one, append_assoc, append-nil, eq-eqb, ne_eqb, length-take, take_all, take_at, drop-cons, ◌≡◌, refl, Result, ℕ, suc, ◌+◌, ◌*◌, ◌≤◌, ◌<◌, min, List, [], ◌∷◌, ◌++◌, ℤ, length, get_or, take, drop, set, drop_of_length-le, take-suc-set}
use Rattle.std.proofs.lemmas.List.{map-append, length-map}
use Rattle.refusals.specs.declared.Refusal.{Refusal}
use Rattle.refusals.specs.Refusals.{told}
use Rattle.track_settings.specs.declared.TrackSettings.{TrackSettings}
use Rattle.track_settings.specs.TrackSettings.{stored_settings}
use Rattle.track_settings.specs.TrackSettingsLaws.{known}
use Rattle.pitch_track.specs.declared.Track.{Track}
use Rattle.pitch_track.specs.declared.Answered.{Answered}
use Rattle.track_paper.specs.Paper.{no_previous, after, frames_done}
use Rattle.pitch_track.specs.Step.{DeliveryOutcome, delivery_outcome, start_no, start_call, deliver_call}
use Rattle.track_chain.specs.Chain.{Left, then, chain, run_from_start, final_samples, answer_nos, accepted_samples, Ended}
use Rattle.track_run.specs.Run.{parts, deliveries, told_all, RunOutcome, run_outcome, run_call, EndsOnPaper}
use Rattle.track_paper.specs.RowsLaws.{row_read, before_suc}
use Rattle.pitch_table.specs.Row.{row_size}
use Rattle.track_chain.proofs.MeaningOfRows.{rows_say}
use Rattle.track_chain.proofs.OnPaper.{on_paper, equation, same_rows}

-- the whole chain leaves what its rest leaves, with the i answers that are there before it
pub record Ahead (a : Left) (said : List (Result ℕ Refusal)) (i : ℕ) (b : Left) : Type 0 where
  pub tracks : a.track ≡ b.track
  pub tables : a.table ≡ b.table
  pub answers : a.said ≡ told_all (take i said) ++ b.said

pub ahead_none : (a : Left) (said : List (Result ℕ Refusal)) → Ahead a said 0 a
ahead_none a said = record { tracks = refl; tables = refl; answers = refl }

pub ahead_more : (a b : Left) (o : DeliveryOutcome) (said : List (Result ℕ Refusal)) (i : ℕ) (v : Result ℕ Refusal) → i < length said → told v ≡ o.delivered.answer
    → Ahead a said i (then o b) → Ahead a (set said i v) (suc i) b
ahead_more a b o said i v h e p =
    record {
      tracks = p.tracks;
      tables = p.tables;
      answers =
          p.answers
          ∙ ap (λ (n : Result ℕ ℕ). told_all (take i said) ++ n ∷ b.said) (sym e)
          ∙ sym (append_assoc (told_all (take i said)) (told v ∷ []) b.said)
          ∙ ap (λ (l : List (Result ℕ ℕ)). l ++ b.said) (sym (ap told_all (take-suc-set said i v h) ∙ map-append (λ (r : Result ℕ Refusal). told r) (take i said) (v ∷ [])));
    }

-- the part that is delivered next, and what follows it
pub chain_more : (cuts : List ℕ) (i : ℕ) → i < length cuts → (tr : Track) (t x : List ℤ)
    → chain tr t (parts (drop i cuts) x)
    ≡ then (deliver_call tr t (take (get_or cuts i 0) x))
    (chain (deliver_call tr t (take (get_or cuts i 0) x)).delivered.track (deliver_call tr t (take (get_or cuts i 0) x)).table (parts (drop (suc i) cuts) (drop (get_or cuts i 0) x)))
unfolding chain parts
chain_more cuts i h tr t x = rw (drop-cons cuts i 0 h)

pub chain_none : (cuts : List ℕ) (i : ℕ) → length cuts ≤ i → (tr : Track) (t x : List ℤ)
    → chain tr t (parts (drop i cuts) x) ≡ record { said = []; track = tr; table = t }
unfolding chain parts
chain_none cuts i h tr t x = rw (drop_of_length-le cuts h)

-- a turn: the part d is delivered, and y is what is left of the samples x
pub turn : (a : Left) (cuts : List ℕ) (i : ℕ) (tr : Track) (t x d y : List ℤ) (said : List (Result ℕ Refusal)) (r : Answered) (t' : List ℤ)
    → i < length cuts → i < length said
    → d ≡ take (get_or cuts i 0) x → y ≡ drop (get_or cuts i 0) x
    → delivery_outcome r t' ≡ deliver_call tr t d
    → Ahead a said i (chain tr t (parts (drop i cuts) x))
    → Ahead a (set said i r.answer) (i + 1) (chain r.track t' (parts (drop (i + 1) cuts) y))
turn a cuts i tr t x d y said r t' hc hs ed ey e p =
    rw (add-one, ey)
    (ahead_more a _ (delivery_outcome r t') said i r.answer hs refl
    (subst
    (λ (o : DeliveryOutcome). Ahead a said i (then o (chain o.delivered.track o.table (parts (drop (suc i) cuts) (drop (get_or cuts i 0) x)))))
    (sym (e ∙ ap (deliver_call tr t) ed))
    (subst (Ahead a said i) (chain_more cuts i hc tr t x) p)))

-- the end of the chain
pub ahead_all : (a : Left) (said : List (Result ℕ Refusal)) (tr : Track) (table : List ℤ) (i : ℕ) → length said ≤ i → Ahead a said i (record { said = []; track = tr; table = table })
    → (tr ≡ a.track) × ((told_all said ≡ a.said) × (table ≡ a.table))
ahead_all a said tr table i h p = (sym p.tracks, (sym (p.answers ∙ append-nil (told_all (take i said)) ∙ ap told_all (take_all i said h)), sym p.tables))

-- an answer for each delivery
pub length_said : (tr : Track) (t : List ℤ) (ds : List (List ℤ)) → length (chain tr t ds).said ≡ length ds
unfolding chain
length_said tr t [] = refl
length_said tr t (d ∷ ds) = ap suc (length_said (deliver_call tr t d).delivered.track (deliver_call tr t d).table ds)

pub length_parts : (cuts : List ℕ) (x : List ℤ) → length (parts cuts x) ≡ length cuts
unfolding parts
length_parts [] x = refl
length_parts (n ∷ ns) x = ap suc (length_parts ns (drop n x))

-- what a run leaves is the track on paper
pub ended : (s : TrackSettings) → start_no s ≡ 0 → (t : List ℤ) (ds : List (List ℤ)) (said : List ℕ) (tr : Track) (table : List ℤ)
    → tr ≡ (run_from_start s t ds).track → said ≡ answer_nos (run_from_start s t ds).said → table ≡ (run_from_start s t ds).table → Ended s t ds said tr table
ended s ok t ds said tr table e n h =
    let q = on_paper s ok t ds in
    record {
      answers_are = n ∙ ap answer_nos q.said;
      frames_are = ap (λ (x : Track). x.frames) e ∙ q.frames;
      held_are = ap (λ (x : Track). take x.count x.held) e ∙ q.held;
      rows_are = λ k g. ap (λ (l : List ℤ). take row_size (drop (k * row_size) l)) h ∙ q.rows k g;
      others_are = ap (drop (frames_done (stored_settings s) (final_samples s t ds) * row_size)) h ∙ q.others;
      rows_say = λ k g. rw (row_read table k _ (ap (λ (l : List ℤ). take row_size (drop (k * row_size) l)) h ∙ q.rows k g)) (rows_say s (final_samples s t ds) (known s no_previous.signal ok) k g);
      rows_leave =
          λ k g.
          sym (before_suc s (final_samples s t ds) no_previous k)
          ∙ ap (after (stored_settings s)) (sym (row_read table k _ (ap (λ (l : List ℤ). take row_size (drop (k * row_size) l)) h ∙ q.rows k g)));
      state_is = e ∙ ap (λ (l : Left). l.track) (equation s ok t ds);
      table_is = h ∙ ap (λ (l : Left). l.table) (equation s ok t ds);
      cuts_free = λ u es a. rw (e, h) (same_rows s ok t u ds es (ap (λ (k : List ℕ). accepted_samples k ds) (sym n) ∙ a));
    }

abbrev outcome : Result ℕ ℕ → Track → List (Result ℕ ℕ) → List ℤ → RunOutcome
outcome a tr said table = record { ran = record { answer = a; track = tr }; said = said; table = table }

-- a run with settings that are accepted, and one with settings that are refused
module _ (s : TrackSettings) (t : List ℤ) (cuts : List ℕ) (x : List ℤ) (said : List (Result ℕ Refusal)) where
  abbrev made : List (List ℤ)
  made = deliveries s cuts x (length said)

  module _ (ok : start_no s ≡ 0) where
    pub made_parts : made ≡ parts (take (length said) cuts) x
    unfolding deliveries
    made_parts = rw (eq-eqb (start_no s) 0 ok)

    pub length_made : length made ≡ min (length said) (length cuts)
    length_made = ap length made_parts ∙ length_parts (take (length said) cuts) x ∙ length-take (length said) cuts

    -- front holds the answers of the n deliveries
    module _ (n : ℕ) (all : n ≡ length made) (r : Answered) (front : List (Result ℕ Refusal)) (table : List ℤ) (same_answer : told r.answer ≡ (start_call s).answer)
        (same_track : r.track ≡ (run_from_start s t made).track) (answers : told_all front ≡ (run_from_start s t made).said) (same_table : table ≡ (run_from_start s t made).table) where
      pub ran : run_outcome r (front ++ drop n said) table ≡ run_call s t made said
      unfolding run_call
      ran =
          ap (λ (l : List (Result ℕ ℕ)). outcome (told r.answer) r.track l table) (map-append (λ (a : Result ℕ Refusal). told a) front (drop n said))
          ∙ (λ i. outcome (same_answer i) (same_track i) (answers i ++ told_all (drop (all i) said)) (same_table i))

      -- the front is as long as the deliveries are many
      front_is : take (length made) (front ++ drop n said) ≡ front
      front_is =
          take_at front (drop n said) (length made)
          (sym (length-map front (λ (a : Result ℕ Refusal). told a)) ∙ ap (λ (l : List (Result ℕ ℕ)). length l) answers ∙ length_said (start_call s).track t made)

      pub ends : EndsOnPaper s t made (front ++ drop n said) r table
      ends h =
          ended s h t made _ r.track table same_track
          (ap (λ (l : List (Result ℕ Refusal)). answer_nos (told_all l)) front_is ∙ ap answer_nos answers)
          same_table

  module _ (wrong : start_no s ≡ 0 → ⊥) where
    pub made_none : made ≡ []
    unfolding deliveries
    made_none = rw (ne_eqb (start_no s) 0 wrong)

    pub refused : (r : Answered) → told r.answer ≡ (start_call s).answer → r.track ≡ (start_call s).track → run_outcome r said t ≡ run_call s t made said
    unfolding run_call chain
    refused r e h = (λ i. outcome (e i) (h i) (told_all said) t) ∙ ap (λ (ds : List (List ℤ)). run_call s t ds said) (sym made_none)
