-- What each call says, by its tests, and what is known where it does not refuse.
use Rattle.std.specs.Prelude.{Bool, ℤ, length, Result, Ok, Err, ◌≡◌, refl, true, false, cond, List, [], ◌∷◌, ◌++◌, ℕ, ◌+◌, ◌*◌, ◌≤◌, ◌<◌, min, eqb, leb, pos, drop}
use Rattle.std.proofs.Common.{sym, ◌∙◌, ap, arith, eq-eqb, ne_eqb, le-leb, eqb-true, leb-true}
use Rattle.std.proofs.lemmas.Bool.{false≢true, lt-leb}
use Rattle.std.proofs.lemmas.List.Edits.{sets, sets-eq}
use Rattle.answers.specs.Answer.{answer_numbers}
use Rattle.best.specs.BestLaws.{every_true, every_false}
use Rattle.lists.specs.FillLaws.{length_tabulate}
use Rattle.pitch_settings.specs.declared.Settings.{Settings}
use Rattle.pitch_settings.specs.Settings.{held_no}
use Rattle.pitch_table.specs.Row.{row_size, most_frames, row_at}
use Rattle.sheet_rows.specs.Rows.{row_holds}
use Rattle.sheet_sections.specs.Sheet.{setting_numbers, rows_of, sheet}
use Rattle.sheet_page.specs.Page.{sheet_settings, frames_in, well_formed, page_no, row_in, row_found, rows_in, numbers_of}
use Rattle.sheet_page.specs.PageLaws.{numbers_length}
use Rattle.pitch_sheet.specs.Calls.{whole_rows, rows_hold, write_no, WriteOutcome, wrote, write_call, write_numbers, read_no, ReadOutcome, got, read_call, read_numbers}

-- ---- rows

module _ (s : Settings) (t : List ℤ) (n : ℕ) where
  pub hold_all : ((i : ℕ) → i < n → row_holds s (row_at t i) ≡ true) → rows_hold s t n ≡ true
  unfolding rows_hold
  hold_all h = every_true n (λ i. row_holds s (row_at t i)) h

  pub hold_not : (i : ℕ) → i < n → row_holds s (row_at t i) ≡ false → rows_hold s t n ≡ false
  unfolding rows_hold
  hold_not i h e = every_false n (λ i. row_holds s (row_at t i)) i h e

  pub hold_each : rows_hold s t n ≡ true → (i : ℕ) → i < n → row_holds s (row_at t i) ≡ true
  hold_each h i l = by (row_holds s (row_at t i)) refl
    where
      by : (b : Bool) → row_holds s (row_at t i) ≡ b → row_holds s (row_at t i) ≡ true
      by true e = e
      by false e = absurd (false≢true (sym (hold_not i l e) ∙ h))

-- ---- writing

module _ (s : Settings) (n : ℕ) (t : List ℤ) (room : ℕ) where
  pub no_settings : (held_no s ≡ 0 → ⊥) → write_no s n t room ≡ held_no s
  unfolding write_no
  no_settings g = rw (ne_eqb (held_no s) 0 g)

  module _ (a : held_no s ≡ 0) where
    pub no_frames : most_frames < n → write_no s n t room ≡ 6
    unfolding write_no
    no_frames h = rw (eq-eqb (held_no s) 0 a, lt-leb n most_frames h)

    module _ (h : n ≤ most_frames) where
      -- the rows that are there
      pub no_rows : {m : ℕ} → m ≡ min n (whole_rows t) → rows_hold s t m ≡ false → write_no s n t room ≡ 9
      unfolding write_no
      no_rows e f = rw (eq-eqb (held_no s) 0 a, le-leb n most_frames h, ← e, f)

      module _ {m : ℕ} (e : m ≡ min n (whole_rows t)) (f : rows_hold s t m ≡ true) where
        pub no_table : whole_rows t < n → write_no s n t room ≡ 7
        unfolding write_no
        no_table k = rw (eq-eqb (held_no s) 0 a, le-leb n most_frames h, ← e, f, lt-leb n (whole_rows t) k)

        module _ (k : n ≤ whole_rows t) where
          pub no_room : room < length (sheet s (rows_of t n)) → write_no s n t room ≡ 8
          unfolding write_no
          no_room l = rw (eq-eqb (held_no s) 0 a, le-leb n most_frames h, ← e, f, le-leb n (whole_rows t) k, lt-leb (length (sheet s (rows_of t n))) room l)

          pub no_refusal : length (sheet s (rows_of t n)) ≤ room → write_no s n t room ≡ 0
          unfolding write_no
          no_refusal l = rw (eq-eqb (held_no s) 0 a, le-leb n most_frames h, ← e, f, le-leb n (whole_rows t) k, le-leb (length (sheet s (rows_of t n))) room l)

  -- what is known where nothing is refused
  pub record Writable : Type 0 where
    pub settings : held_no s ≡ 0
    pub few : n ≤ most_frames
    pub whole : n * row_size ≤ length t
    pub rows : (i : ℕ) → i < n → row_holds s (row_at t i) ≡ true
    pub fits : length (sheet s (rows_of t n)) ≤ room

  pub writable : write_no s n t room ≡ 0 → Writable
  unfolding write_no
  writable z = by (eqb (held_no s) 0) (leb n most_frames) (rows_hold s t (min n (whole_rows t))) (leb n (whole_rows t)) (leb (length (sheet s (rows_of t n))) room) refl refl refl refl refl z
    where
      by : (a b c d e : Bool) → eqb (held_no s) 0 ≡ a → leb n most_frames ≡ b → rows_hold s t (min n (whole_rows t)) ≡ c → leb n (whole_rows t) ≡ d → leb (length (sheet s (rows_of t n))) room ≡ e
          → cond a (cond b (cond c (cond d (cond e 0 8) 7) 9) 6) (held_no s) ≡ 0 → Writable
      by true true true true true p q r u v z =
          let l = leb-true n (whole_rows t) u in
          let m : min n (whole_rows t) ≡ n = omega arith in
          record {
            settings = eqb-true (held_no s) 0 p;
            few = leb-true n most_frames q;
            whole = omega arith;
            rows = hold_each s t n (ap (rows_hold s t) (sym m) ∙ r);
            fits = leb-true (length (sheet s (rows_of t n))) room v;
          }
      by true true true true false p q r u v z = absurd (omega arith)
      by true true true false e p q r u v z = absurd (omega arith)
      by true true false d e p q r u v z = absurd (omega arith)
      by true false c d e p q r u v z = absurd (omega arith)
      by false b c d e p q r u v z = absurd (false≢true (sym p ∙ eq-eqb (held_no s) 0 z))

module _ (s : Settings) (n : ℕ) (t : List ℤ) (page : List ℕ) where
  pub write_refused : (write_no s n t (length page) ≡ 0 → ⊥) → write_call s n t page ≡ wrote (Err (write_no s n t (length page))) page
  unfolding write_call
  write_refused g = rw (ne_eqb (write_no s n t (length page)) 0 g)

  pub write_done : write_no s n t (length page) ≡ 0 → write_call s n t page ≡ wrote (Ok (length (sheet s (rows_of t n)))) (sheet s (rows_of t n) ++ drop (length (sheet s (rows_of t n))) page)
  unfolding write_call
  write_done e = rw (eq-eqb (write_no s n t (length page)) 0 e)

  -- the answer with its numbers
  pub write_answer : {r : Result ℕ ℕ} {after : List ℕ} → wrote r after ≡ write_call s n t page
      → (wrote r after ≡ write_call s n t page) × (write_numbers r ≡ answer_numbers (write_no s n t (length page)) (pos (length (sheet s (rows_of t n))) ∷ []))
  unfolding write_call write_numbers
  write_answer e = (e, ap (λ (o : WriteOutcome). write_numbers o.answer) e ∙ by (eqb (write_no s n t (length page)) 0) refl)
    where
      by : (b : Bool) → eqb (write_no s n t (length page)) 0 ≡ b
          → write_numbers (cond b (wrote (Ok (length (sheet s (rows_of t n)))) (sheet s (rows_of t n) ++ drop (length (sheet s (rows_of t n))) page)) (wrote (Err (write_no s n t (length page))) page)).answer
          ≡ pos (write_no s n t (length page)) ∷ cond b (pos (length (sheet s (rows_of t n))) ∷ []) []
      by true q = rw (eqb-true (write_no s n t (length page)) 0 q)
      by false q = refl

-- ---- reading

module _ (page : List ℕ) where
  pub page_sheet : page_no page ≡ 0 → well_formed page ≡ true
  unfolding page_no
  page_sheet h = by (well_formed page) refl h
    where
      by : (b : Bool) → well_formed page ≡ b → ◌≡◌ {A = ℕ} (cond b 0 9) 0 → well_formed page ≡ true
      by true e z = e
      by false e z = absurd (omega arith)

  pub sheet_page : well_formed page ≡ true → page_no page ≡ 0
  unfolding page_no
  sheet_page h = rw h

module _ (page : List ℕ) (t : List ℤ) where
  pub read_malformed : (page_no page ≡ 0 → ⊥) → read_call page t ≡ got (Err (page_no page)) t
  unfolding read_call read_no
  read_malformed g = rw (ne_eqb (page_no page) 0 g) (rw (ne_eqb (page_no page) 0 g))

  pub read_short : page_no page ≡ 0 → whole_rows t < frames_in page → read_call page t ≡ got (Err 7) t
  unfolding read_call read_no
  read_short e h = rw (eq-eqb (page_no page) 0 e, lt-leb (frames_in page) (whole_rows t) h)

  pub read_done : page_no page ≡ 0 → frames_in page ≤ whole_rows t → read_call page t ≡ got (Ok (sheet_settings page, frames_in page)) (numbers_of (rows_in page) ++ drop (frames_in page * row_size) t)
  unfolding read_call read_no
  read_done e h = rw (eq-eqb (page_no page) 0 e, le-leb (frames_in page) (whole_rows t) h)

  -- the answer with its numbers
  pub read_answer : {r : Result (Settings × ℕ) ℕ} {after : List ℤ} → got r after ≡ read_call page t
      → (got r after ≡ read_call page t) × (read_numbers r ≡ answer_numbers (read_no page t) (setting_numbers (sheet_settings page) ++ (pos (frames_in page) ∷ [])))
  unfolding read_call read_numbers
  read_answer e = (e, ap (λ (o : ReadOutcome). read_numbers o.answer) e ∙ by (eqb (read_no page t) 0) refl)
    where
      by : (b : Bool) → eqb (read_no page t) 0 ≡ b
          → read_numbers (cond b (got (Ok (sheet_settings page, frames_in page)) (numbers_of (rows_in page) ++ drop (frames_in page * row_size) t)) (got (Err (read_no page t)) t)).answer
          ≡ pos (read_no page t) ∷ cond b (setting_numbers (sheet_settings page) ++ (pos (frames_in page) ∷ [])) []
      by true q = rw (eqb-true (read_no page t) 0 q)
      by false q = refl

-- stores at the front, as the bytes and then the rest
pub front : {A : Type 0} (l xs : List A) → length xs ≤ length l → sets l 0 xs ≡ xs ++ drop (length xs) l
front l xs h = let e : 0 + length xs ≡ length xs = omega arith in sets-eq xs l 0 (omega arith) ∙ ap (λ (n : ℕ). xs ++ drop n l) e

-- the numbers of a page's rows
pub rows_in-length : (page : List ℕ) → length (numbers_of (rows_in page)) ≡ frames_in page * row_size
unfolding rows_in
rows_in-length page = numbers_length (rows_in page) ∙ ap (λ (n : ℕ). n * row_size) (length_tabulate (λ i. row_found (row_in page i)) (frames_in page))
