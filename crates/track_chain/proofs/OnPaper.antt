-- The claim over a list of deliveries: one call takes the state on paper of J to that of J after the delivery, and so a chain of calls from a fresh start does.
use Rattle.std.proofs.Common.{sym, ap, ◌∙◌, ⊎_elim, arith, ne_eqb, append_assoc, append-nil, length-append, length-drop, drop-drop, take_at, drop_at, add-mul, ◌≡◌, refl, Ok, Err, ℕ, ◌+◌, ◌-◌, ◌*◌, ◌/◌, ◌≤◌, ◌<◌, List, [], ◌∷◌, ◌++◌, ℤ, length, take, drop, zero-mul}
use Rattle.std.proofs.lemmas.List.{drop-append-le}
use Rattle.std.proofs.Math.Seq.{drop-append-add}
use Rattle.pitch_settings.specs.declared.Settings.{Settings}
use Rattle.pitch_settings.specs.Settings.{frame_length, hop_length, settings_no}
use Rattle.pitch_settings.specs.SettingsLaws.{accepted_settings}
use Rattle.track_settings.specs.declared.TrackSettings.{TrackSettings}
use Rattle.track_settings.specs.TrackSettings.{stored_settings, track_settings_no}
use Rattle.track_settings.specs.TrackSettingsLaws.{known}
use Rattle.pitch_table.specs.Row.{row_size, most_frames}
use Rattle.track_paper.specs.declared.Prev.{Prev}
use Rattle.track_paper.specs.Paper.{F, previous, no_previous, paper_numbers, track_limit, paper_no, joined_by, paper_answer, joined_samples, paper_answers, frames_done, samples_held, paper_table}
use Rattle.track_paper.specs.FramesLaws.{lt_or_le, eq_or_ne, short}
use Rattle.track_paper.specs.RowsLaws.{type_accepted, length_rows, before_drop, rows_drop, before_stable, rows_stable, row_in}
use Rattle.track_paper.specs.PaperLaws.{limit_refuses, paper_over, paper_none, paper_seven, paper_room, joins, stays, says_yes, says_no, within_limit, within_rows, frames_start, length_held, held_few, added, whole_frame}
use Rattle.track_refusal.specs.Refusal.{delivery_refusal}
use Rattle.track_refusal.specs.RefusalLaws.{over, seven, room, none}
use Rattle.pitch_track.specs.declared.Track.{Track}
use Rattle.pitch_track.specs.Step.{DeliveryOutcome, padded, start_no, start_call, fresh_track, delivery_no, pending, accepted_delivery, deliver_call}
use Rattle.pitch_track.proofs.Lists.{padded_front}
use Rattle.pitch_track.proofs.Deliver.{refuses, accepts, made}
use Rattle.track_chain.specs.Chain.{Left, chain, run_from_start, final_samples, paper_state, OnPaper, answer_nos, accepted_samples, accepted_in, finished, SameRows}

-- the frames of J are within the limit and the table
pub record Reached (s : Settings) (t j : List ℤ) : Type 0 where
  pub few : frames_done s j ≤ most_frames
  pub fit : frames_done s j * row_size ≤ length t

-- what a chain of calls leaves, with settings that are accepted
module _ (ts : TrackSettings) (right : start_no ts ≡ 0) where
  abbrev s : Settings
  s = stored_settings ts

  ok : settings_no s ≡ 0
  ok = known ts no_previous.signal right

  module _ (t : List ℤ) where
    length_table : (j : List ℤ) → Reached s t j → length (paper_table ts t j) ≡ length t
    unfolding paper_table
    length_table j r = simp (length-append, length-drop) (omega (arith, length_rows ts j no_previous (frames_done s j), r.fit))

    -- the program's refusal and the paper's have one number
    same_no : (j d : List ℤ) → Reached s t j → delivery_no (paper_state ts j) (paper_table ts t j) d ≡ paper_no track_limit s (length t / row_size) j d
    unfolding paper_state
    same_no j d r =
        let type = (previous ts j no_previous (frames_done s j)).signal in
        let good : track_settings_no ts (previous ts j no_previous (frames_done s j)).signal ≡ 0 = type_accepted ts j (frames_done s j) right in
        let f : ℕ = F s (length j) in
        let h : ℕ = length (samples_held s j) in
        let k : ℕ = F s (length (samples_held s j) + length d) in
        let n : ℕ = F s (length j + length d) in
        let e : F s (length j) + F s (length (samples_held s j) + length d) ≡ F s (length j + length d) = added s ok j d in
        ap (delivery_refusal track_limit ts type f h (length d)) (length_table j r)
        ∙ ⊎_elim
        (λ (p : most_frames < n). over track_limit ts type f h (length d) (length t) good (omega arith) ∙ sym (paper_over track_limit s (length t / row_size) j d (omega arith)))
        (λ (p : n ≤ most_frames).
        ⊎_elim
        (λ (q : 0 < k).
        ⊎_elim
        (λ (m : length t / row_size < n).
        seven track_limit ts type f h (length d) (length t) good (omega arith) (held_few s ok j) q (omega arith)
        ∙ sym (paper_seven track_limit s (length t / row_size) j d (omega arith) (omega arith) m))
        (λ (m : n ≤ length t / row_size).
        room track_limit ts type f h (length d) (length t) good (omega arith) (held_few s ok j) q (omega arith)
        ∙ sym (paper_room track_limit s (length t / row_size) j d (omega arith) (omega arith) m))
        (lt_or_le (length t / row_size) n))
        (λ (q : k ≤ 0).
        none track_limit ts type f h (length d) (length t) good (omega arith) (held_few s ok j) q ∙ sym (paper_none track_limit s (length t / row_size) j d (omega arith) (omega arith)))
        (lt_or_le 0 k))
        (lt_or_le most_frames n)

    -- an accepted delivery
    module _ (j d : List ℤ) (r : Reached s t j) where
      abbrev f : ℕ
      f = frames_done s j

      abbrev k : ℕ
      k = F s (length (samples_held s j) + length d)

      done : frames_done s (j ++ d) ≡ f + k
      done = ap (F s) (length-append j d) ∙ sym (added s ok j d)

      pending_is : pending (paper_state ts j) d ≡ drop (f * hop_length s) (j ++ d)
      unfolding pending paper_state
      pending_is =
          ap (λ (l : List ℤ). l ++ d) (padded_front (samples_held s j) (length (samples_held s j)) refl)
          ∙ sym (drop-append-le (frames_done s j * hop_length s) j d (frames_start s ok j))

      -- what stands before row f is what the state holds
      prev : previous ts (j ++ d) no_previous f ≡ (paper_state ts j).prev
      unfolding paper_state
      prev = before_stable ts j d no_previous (frames_done s j) (whole_frame s ok j)

      left : samples_held s (j ++ d) ≡ drop (k * hop_length s) (pending (paper_state ts j) d)
      left =
          ap (λ (n : ℕ). drop (n * hop_length s) (j ++ d)) done
          ∙ ap (λ (n : ℕ). drop n (j ++ d)) (add-mul f k (hop_length s))
          ∙ sym (drop-drop (k * hop_length s) (f * hop_length s) (j ++ d))
          ∙ ap (drop (k * hop_length s)) (sym pending_is)

      last : previous ts (j ++ d) no_previous (frames_done s (j ++ d)) ≡ previous ts (pending (paper_state ts j) d) (paper_state ts j).prev k
      last =
          ap (previous ts (j ++ d) no_previous) done
          ∙ sym (before_drop ts (j ++ d) no_previous f k)
          ∙ ap (λ (q : Prev). previous ts (drop (f * hop_length s) (j ++ d)) q k) prev
          ∙ ap (λ (x : List ℤ). previous ts x (paper_state ts j).prev k) (sym pending_is)

      rows_then : paper_numbers ts (j ++ d) no_previous (frames_done s (j ++ d)) ≡ paper_numbers ts j no_previous f ++ paper_numbers ts (pending (paper_state ts j) d) (paper_state ts j).prev k
      rows_then =
          ap (paper_numbers ts (j ++ d) no_previous) done
          ∙ sym (rows_drop ts (j ++ d) no_previous f k)
          ∙ ap (λ (l : List ℤ). l ++ paper_numbers ts (drop (f * hop_length s) (j ++ d)) (previous ts (j ++ d) no_previous f) k) (rows_stable ts j d no_previous f (whole_frame s ok j))
          ∙ ap (λ (q : Prev). paper_numbers ts j no_previous f ++ paper_numbers ts (drop (f * hop_length s) (j ++ d)) q k) prev
          ∙ ap (λ (x : List ℤ). paper_numbers ts j no_previous f ++ paper_numbers ts x (paper_state ts j).prev k) (sym pending_is)

      -- the finished rows stay, and what follows the new ones is what the table had
      front : take (f * row_size) (paper_table ts t j) ≡ paper_numbers ts j no_previous f
      unfolding paper_table
      front = take_at _ _ _ (length_rows ts j no_previous (frames_done s j))

      back : drop ((f + k) * row_size) (paper_table ts t j) ≡ drop ((f + k) * row_size) t
      unfolding paper_table
      back =
          let e : length (paper_numbers ts j no_previous (frames_done s j)) ≡ frames_done s j * row_size = length_rows ts j no_previous (frames_done s j) in
          let n : (frames_done s j + k) * row_size ≡ length (paper_numbers ts j no_previous (frames_done s j)) + k * row_size = omega arith in
          let m : frames_done s j * row_size + k * row_size ≡ (frames_done s j + k) * row_size = omega arith in
          ap (λ (i : ℕ). drop i (paper_numbers ts j no_previous (frames_done s j) ++ drop (frames_done s j * row_size) t)) n
          ∙ drop-append-add (paper_numbers ts j no_previous (frames_done s j)) (drop (frames_done s j * row_size) t) (k * row_size)
          ∙ drop-drop (k * row_size) (frames_done s j * row_size) t
          ∙ ap (λ (i : ℕ). drop i t) m

      table_raw : paper_table ts t (j ++ d) ≡ paper_numbers ts j no_previous f ++ paper_numbers ts (pending (paper_state ts j) d) (paper_state ts j).prev k ++ drop ((f + k) * row_size) t
      unfolding paper_table
      table_raw =
          ap (λ (l : List ℤ). l ++ drop (frames_done s (j ++ d) * row_size) t) rows_then
          ∙ ap (λ (n : ℕ). paper_numbers ts j no_previous f ++ paper_numbers ts (pending (paper_state ts j) d) (paper_state ts j).prev k ++ drop (n * row_size) t) done

      table_then : paper_table ts t (j ++ d)
          ≡ take (f * row_size) (paper_table ts t j) ++ paper_numbers ts (pending (paper_state ts j) d) (paper_state ts j).prev k ++ drop ((f + k) * row_size) (paper_table ts t j)
      table_then = rw (front, back) table_raw

      grown : accepted_delivery (paper_state ts j) (paper_table ts t j) d k ≡ record { delivered = record { answer = Ok (frames_done s (j ++ d)); track = paper_state ts (j ++ d) }; table = paper_table ts t (j ++ d) }
      unfolding paper_state
      grown =
          let m : frames_done s (j ++ d) * hop_length s ≡ f * hop_length s + k * hop_length s = ap (λ (i : ℕ). i * hop_length s) done ∙ add-mul f k (hop_length s) in
          let n : length (samples_held s (j ++ d)) ≡ length (samples_held s j) + length d - k * hop_length s =
          omega (arith, length_held s ok (j ++ d), length_held s ok j, length-append j d, frames_start s ok j) in
          sym
          (made (paper_state ts j) (paper_table ts t j) d k (frames_done s (j ++ d)) (padded (samples_held s (j ++ d))) (length (samples_held s (j ++ d)))
          (previous ts (j ++ d) no_previous (frames_done s (j ++ d))) (paper_table ts t (j ++ d))
          done (ap padded left) n last table_then)

      accepted_as : accepted_delivery (paper_state ts j) (paper_table ts t j) d (F (stored_settings (paper_state ts j).settings) ((paper_state ts j).count + length d))
          ≡ record { delivered = record { answer = Ok (frames_done s (j ++ d)); track = paper_state ts (j ++ d) }; table = paper_table ts t (j ++ d) }
      unfolding paper_state
      accepted_as = grown

    -- the whole rows of the table as first lent
    abbrev whole_rows : ℕ
    whole_rows = length t / row_size

    -- a refusal by its number
    abbrev refused_by : List ℤ → ℕ → DeliveryOutcome
    refused_by j n = record { delivered = record { answer = Err n; track = paper_state ts j }; table = paper_table ts t j }

    -- one call
    step : (j d : List ℤ) → Reached s t j
        → deliver_call (paper_state ts j) (paper_table ts t j) d
        ≡ record { delivered = record { answer = paper_answer track_limit s whole_rows j d; track = paper_state ts (joined_by track_limit s whole_rows j d) }; table = paper_table ts t (joined_by track_limit s whole_rows j d) }
    step j d r =
        ⊎_elim
        (λ (e : paper_no track_limit s whole_rows j d ≡ 0).
        rw (says_yes track_limit s whole_rows j d e, joins track_limit s whole_rows j d e, ← length-append j d)
        (accepts (paper_state ts j) (paper_table ts t j) d (same_no j d r ∙ e) ∙ accepted_as j d r))
        (λ (e : paper_no track_limit s whole_rows j d ≡ 0 → ⊥).
        rw (says_no track_limit s whole_rows j d e, stays track_limit s whole_rows j d e)
        (refuses (paper_state ts j) (paper_table ts t j) d (λ q. e (sym (same_no j d r) ∙ q))
        ∙ ap (refused_by j) (same_no j d r)))
        (eq_or_ne (paper_no track_limit s whole_rows j d) 0)

    reach : (j d : List ℤ) → Reached s t j → Reached s t (joined_by track_limit s whole_rows j d)
    reach j d r =
        ⊎_elim
        (λ (e : paper_no track_limit s whole_rows j d ≡ 0).
        let n : frames_done s (j ++ d) ≡ F s (length j + length d) = ap (F s) (length-append j d) in
        let within : F s (length j + length d) ≤ most_frames = within_limit track_limit s whole_rows j d limit_refuses e in
        rw (joins track_limit s whole_rows j d e)
        (record {
          few = omega arith;
          fit =
              ⊎_elim
              (λ (p : F s (length j) < F s (length j + length d)). let q = within_rows track_limit s whole_rows j d limit_refuses e p in omega arith)
              (λ (p : F s (length j + length d) ≤ F s (length j)). omega (arith, r.fit))
              (lt_or_le (F s (length j)) (F s (length j + length d)));
        }))
        (λ e. rw (stays track_limit s whole_rows j d e) r)
        (eq_or_ne (paper_no track_limit s whole_rows j d) 0)

    reach_all : (ds : List (List ℤ)) (j : List ℤ) → Reached s t j → Reached s t (joined_samples track_limit s whole_rows j ds)
    unfolding joined_samples
    reach_all [] j r = r
    reach_all (d ∷ ds) j r = reach_all ds (joined_by track_limit s whole_rows j d) (reach j d r)

    -- a list of calls
    chain_is : (ds : List (List ℤ)) (j : List ℤ) → Reached s t j
        → chain (paper_state ts j) (paper_table ts t j) ds
        ≡ record { said = paper_answers track_limit s whole_rows j ds; track = paper_state ts (joined_samples track_limit s whole_rows j ds); table = paper_table ts t (joined_samples track_limit s whole_rows j ds) }
    unfolding chain paper_answers joined_samples
    chain_is [] j r = refl
    chain_is (d ∷ ds) j r =
        rw (step j d r)
        (ap (λ (l : Left). record { said = paper_answer track_limit s whole_rows j d ∷ l.said; track = l.track; table = l.table })
        (chain_is ds (joined_by track_limit s whole_rows j d) (reach j d r)))

    -- the start
    no_frames : frames_done s [] ≡ 0
    no_frames = let z = accepted_settings s ok in short (frame_length s) (hop_length s) 0 (omega (arith, z.some, z.within))

    fresh : (start_call ts).track ≡ paper_state ts []
    unfolding start_call fresh_track paper_state padded previous
    fresh = rw (no_frames, zero-mul)

    bare : t ≡ paper_table ts t []
    unfolding paper_table paper_numbers
    bare = rw no_frames

    reached_none : Reached s t []
    reached_none = record { few = omega (arith, no_frames); fit = omega (arith, no_frames) }

    -- the frames of a chain are within the limit and the table
    pub reached : (ds : List (List ℤ)) → Reached s t (final_samples ts t ds)
    reached ds = reach_all ds [] reached_none

    -- as one equation: all that a chain of calls leaves is what the paper says
    pub equation : (ds : List (List ℤ))
        → run_from_start ts t ds
        ≡ record { said = paper_answers track_limit s whole_rows [] ds; track = paper_state ts (final_samples ts t ds); table = paper_table ts t (final_samples ts t ds) }
    equation ds = ap (λ (tr : Track). chain tr t ds) fresh ∙ ap (λ (l : List ℤ). chain (paper_state ts []) l ds) bare ∙ chain_is ds [] reached_none

    -- part by part
    pub on_paper : (ds : List (List ℤ)) → OnPaper ts t ds
    unfolding paper_state paper_table
    on_paper ds =
        let j : List ℤ = final_samples ts t ds in
        let e = equation ds in
        let r : Reached s t (final_samples ts t ds) = reached ds in
        record {
          said = ap (λ (l : Left). l.said) e;
          frames = ap (λ (l : Left). l.track.frames) e;
          held = ap (λ (l : Left). take l.track.count l.track.held) e ∙ padded_front (samples_held s j) (length (samples_held s j)) refl;
          rows = λ i h. ap (λ (l : Left). take row_size (drop (i * row_size) l.table)) e ∙ row_in ts j no_previous (frames_done s j) i (drop (frames_done s j * row_size) t) h;
          others =
              ap (λ (l : Left). drop (frames_done s j * row_size) l.table) e
              ∙ drop_at (paper_numbers ts j no_previous (frames_done s j)) (drop (frames_done s j * row_size) t) (frames_done s j * row_size) (length_rows ts j no_previous (frames_done s j));
          size = ap (λ (l : Left). length l.table) e ∙ length_table j r;
        }

    -- the finished rows are those of J
    finished_are : (ds : List (List ℤ)) → finished (run_from_start ts t ds).track (run_from_start ts t ds).table ≡ paper_numbers ts (final_samples ts t ds) no_previous (frames_done s (final_samples ts t ds))
    unfolding paper_state paper_table
    finished_are ds =
        let j : List ℤ = final_samples ts t ds in
        ap (λ (l : Left). take (l.track.frames * row_size) l.table) (equation ds)
        ∙ take_at (paper_numbers ts j no_previous (frames_done s j)) (drop (frames_done s j * row_size) t) (frames_done s j * row_size) (length_rows ts j no_previous (frames_done s j))

    -- J is the accepted samples, joined
    kept_then : (ds : List (List ℤ)) (j : List ℤ) → j ++ accepted_samples (answer_nos (paper_answers track_limit s whole_rows j ds)) ds ≡ joined_samples track_limit s whole_rows j ds
    unfolding paper_answers joined_samples accepted_samples answer_nos
    kept_then [] j = append-nil j
    kept_then (d ∷ ds) j =
        let more : List ℤ = accepted_samples (answer_nos (paper_answers track_limit s whole_rows (joined_by track_limit s whole_rows j d) ds)) ds in
        ⊎_elim
        (λ (e : paper_no track_limit s whole_rows j d ≡ 0).
        rw (says_yes track_limit s whole_rows j d e)
        (sym (append_assoc j d more) ∙ ap (λ (l : List ℤ). l ++ more) (sym (joins track_limit s whole_rows j d e)) ∙ kept_then ds (joined_by track_limit s whole_rows j d)))
        (λ (e : paper_no track_limit s whole_rows j d ≡ 0 → ⊥).
        rw (says_no track_limit s whole_rows j d e, ne_eqb (paper_no track_limit s whole_rows j d) 0 e)
        (ap (λ (l : List ℤ). l ++ more) (sym (stays track_limit s whole_rows j d e)) ∙ kept_then ds (joined_by track_limit s whole_rows j d)))
        (eq_or_ne (paper_no track_limit s whole_rows j d) 0)

    accepted_is : (ds : List (List ℤ)) → accepted_in ts t ds ≡ final_samples ts t ds
    accepted_is ds = ap (λ (l : Left). accepted_samples (answer_nos l.said) ds) (equation ds) ∙ kept_then ds []

  -- the cuts
  pub same_rows : (t u : List ℤ) (ds es : List (List ℤ)) → SameRows ts t u ds es
  same_rows t u ds es h =
      let e : final_samples ts t ds ≡ final_samples ts u es = sym (accepted_is t ds) ∙ h ∙ accepted_is u es in
      let same : (run_from_start ts t ds).track ≡ (run_from_start ts u es).track =
      ap (λ (l : Left). l.track) (equation t ds) ∙ ap (paper_state ts) e ∙ sym (ap (λ (l : Left). l.track) (equation u es)) in
      record {
        rows_same = finished_are t ds ∙ ap (λ (j : List ℤ). paper_numbers ts j no_previous (frames_done s j)) e ∙ sym (finished_are u es);
        frames_same = ap (λ (k : Track). k.frames) same;
        held_same = ap (λ (k : Track). take k.count k.held) same;
        state_same = same;
      }
