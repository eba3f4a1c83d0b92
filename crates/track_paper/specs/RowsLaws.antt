-- The rows of a list of samples: one more row, and where rows stand in a table.
use Rattle.std.specs.Prelude.{◌≡◌, Bool, true, false, cond, ℤ, pos, length, get_or, ℕ, zero, suc, ◌+◌, ◌*◌, ◌≤◌, ◌<◌, List, ◌++◌, refl, take, drop}
use Rattle.std.proofs.Common.{◌∙◌, ⊎_elim, add-zero, add-suc, add-mul, take-append-drop, get_or-take, get_or-drop, drop-drop, drop_at, take_at, append_assoc, append-nil, arith, sym, ap, length-append, length-drop, length-take-le}
use Rattle.std.proofs.Math.Seq.{take-append-le}
use Rattle.std.proofs.lemmas.List.Edits.{sets, sets-eq}
use Rattle.std.proofs.lemmas.List.{drop-append-le}
use Rattle.track_settings.specs.declared.TrackSettings.{TrackSettings}
use Rattle.track_settings.specs.TrackSettings.{stored_settings, track_settings_no}
use Rattle.track_settings.specs.TrackSettingsLaws.{types}
use Rattle.zint.specs.Equal.{eq_z}
use Rattle.track_paper.specs.declared.Prev.{Prev}
use Rattle.pitch_settings.specs.Settings.{frame_length, hop_length}
use Rattle.pitch_table.specs.declared.Row.{Row}
use Rattle.pitch_table.specs.Row.{row_size, numbers, row_at}
use Rattle.track_paper.specs.Paper.{next_row, no_previous, row_type, after, window, previous, paper_row, paper_numbers}
use Rattle.track_paper.specs.FramesLaws.{lt_or_le}

-- v is written over the front of what follows a
put_at : (a v d : List ℤ) (i : ℕ) → length a ≡ i → length v ≤ length d → sets (a ++ d) i v ≡ a ++ (v ++ drop (length v) d)
put_at a v d i e h =
    sets-eq v (a ++ d) i (rw length-append (omega arith))
    ∙ rw (take_at a d i e, ← drop-drop (length v) i (a ++ d), drop_at a d i e, append_assoc) refl

-- the table t with the first k rows of x from row f on
abbrev pub written : TrackSettings → List ℤ → Prev → List ℤ → ℕ → ℕ → List ℤ
written s x p t f k = take (f * row_size) t ++ paper_numbers s x p k ++ drop ((f + k) * row_size) t

module _ (s : TrackSettings) (x : List ℤ) (p : Prev) where
  pub length_rows : (k : ℕ) → length (paper_numbers s x p k) ≡ k * row_size
  unfolding paper_numbers
  length_rows zero = refl
  length_rows (suc k) = length-append (paper_numbers s x p k) (numbers (paper_row s x p k)) ∙ omega (arith, length_rows k)

  pub row_is : (k from : ℕ) (q : Prev) → from ≡ k * hop_length (stored_settings s) → q ≡ previous s x p k → next_row s (take (frame_length (stored_settings s)) (drop from x)) q ≡ paper_row s x p k
  unfolding window paper_row
  row_is k from q e h = cc

  pub before_suc : (k : ℕ) → after (stored_settings s) (paper_row s x p k) ≡ previous s x p (suc k)
  unfolding previous paper_row
  before_suc k = refl

  module _ (t : List ℤ) (f : ℕ) where
    pub write_none : t ≡ written s x p t f 0
    unfolding paper_numbers
    write_none = simp (add-zero, append-nil, take-append-drop)

    pub write_more : (k : ℕ) → (f + suc k) * row_size ≤ length t
        → sets (written s x p t f k) ((f + k) * row_size) (numbers (paper_row s x p k)) ≡ written s x p t f (suc k)
    unfolding paper_numbers
    write_more k h =
        let e : (f + k) * row_size + 8 ≡ (f + suc k) * row_size = omega arith in
        put_at (take (f * row_size) t ++ paper_numbers s x p k) (numbers (paper_row s x p k)) (drop ((f + k) * row_size) t) ((f + k) * row_size)
        (length-append (take (f * row_size) t) (paper_numbers s x p k) ∙ omega (arith, length-take-le (f * row_size) t (omega arith), length_rows k))
        (omega (arith, length-drop ((f + k) * row_size) t))
        ∙ sym (append_assoc (take (f * row_size) t ++ paper_numbers s x p k) (numbers (paper_row s x p k)) (drop 8 (drop ((f + k) * row_size) t)))
        ∙ ap (λ (l : List ℤ). l ++ drop 8 (drop ((f + k) * row_size) t)) (append_assoc (take (f * row_size) t) (paper_numbers s x p k) (numbers (paper_row s x p k)))
        ∙ ap (λ (l : List ℤ). take (f * row_size) t ++ (paper_numbers s x p k ++ numbers (paper_row s x p k)) ++ l)
        (drop-drop 8 ((f + k) * row_size) t ∙ ap (λ (n : ℕ). drop n t) e)

    pub length_written : (k : ℕ) → (0 < k → (f + k) * row_size ≤ length t) → length (written s x p t f k) ≡ length t
    length_written zero h = sym (ap length write_none)
    length_written (suc k) h =
        simp (length-append, length-drop)
        (omega (arith, length-take-le (f * row_size) t (omega (arith, h (omega arith))), length_rows (suc k), h (omega arith)))

-- rows go by parts: the rows of x from f on are those of x from f × hop on, with what stands before row f
module _ (s : TrackSettings) (x : List ℤ) (p : Prev) (f : ℕ) where
  pub window_drop : (k : ℕ) → window (stored_settings s) (drop (f * hop_length (stored_settings s)) x) k ≡ window (stored_settings s) x (f + k)
  unfolding window
  window_drop k = ap (take (frame_length (stored_settings s))) (drop-drop (k * hop_length (stored_settings s)) (f * hop_length (stored_settings s)) x ∙ ap (λ (n : ℕ). drop n x) (sym (add-mul f k (hop_length (stored_settings s)))))

  pub before_drop : (k : ℕ) → previous s (drop (f * hop_length (stored_settings s)) x) (previous s x p f) k ≡ previous s x p (f + k)
  unfolding previous
  before_drop zero = ap (previous s x p) (sym (add-zero f))
  before_drop (suc k) = rw (add-suc, window_drop k, before_drop k)

  pub row_drop : (k : ℕ) → paper_row s (drop (f * hop_length (stored_settings s)) x) (previous s x p f) k ≡ paper_row s x p (f + k)
  unfolding paper_row
  row_drop k = rw (window_drop k, before_drop k)

  pub rows_drop : (k : ℕ) → paper_numbers s x p f ++ paper_numbers s (drop (f * hop_length (stored_settings s)) x) (previous s x p f) k ≡ paper_numbers s x p (f + k)
  unfolding paper_numbers
  rows_drop zero = rw (append-nil, add-zero)
  rows_drop (suc k) =
      rw (add-suc, row_drop k)
      (sym (append_assoc (paper_numbers s x p f) (paper_numbers s (drop (f * hop_length (stored_settings s)) x) (previous s x p f) k) (numbers (paper_row s x p (f + k))))
      ∙ ap (λ (l : List ℤ). l ++ numbers (paper_row s x p (f + k))) (rows_drop k))

-- samples that follow change no row whose frame is whole
module _ (s : TrackSettings) (x d : List ℤ) (p : Prev) where
  pub window_stable : (i : ℕ) → i * hop_length (stored_settings s) + frame_length (stored_settings s) ≤ length x → window (stored_settings s) (x ++ d) i ≡ window (stored_settings s) x i
  unfolding window
  window_stable i h =
      ap (take (frame_length (stored_settings s))) (drop-append-le (i * hop_length (stored_settings s)) x d (omega arith))
      ∙ take-append-le (frame_length (stored_settings s)) (drop (i * hop_length (stored_settings s)) x) d (rw length-drop (omega arith))

  pub before_stable : (k : ℕ) → ((i : ℕ) → i < k → i * hop_length (stored_settings s) + frame_length (stored_settings s) ≤ length x) → previous s (x ++ d) p k ≡ previous s x p k
  unfolding previous
  before_stable zero h = refl
  before_stable (suc k) h = rw (window_stable k (h k (omega arith)), before_stable k (λ i q. h i (omega arith)))

  pub rows_stable : (k : ℕ) → ((i : ℕ) → i < k → i * hop_length (stored_settings s) + frame_length (stored_settings s) ≤ length x) → paper_numbers s (x ++ d) p k ≡ paper_numbers s x p k
  unfolding paper_numbers paper_row
  rows_stable zero h = refl
  rows_stable (suc k) h =
      rw (window_stable k (h k (omega arith)), before_stable k (λ i q. h i (omega arith)), rows_stable k (λ i q. h i (omega arith)))

-- a row's type is accepted where 0 is, and so is the type before every row
pub row_type_accepted : (k : TrackSettings) (r : Row) → track_settings_no k (pos 0) ≡ 0 → track_settings_no k (row_type r) ≡ 0
row_type_accepted k r e = by (eq_z r.verdict (pos 0))
  where
    by : (b : Bool) → track_settings_no k (cond b (pos 2) (pos 1)) ≡ 0
    by true = (types k).1 ∙ e
    by false = (types k).0 ∙ e

pub type_accepted : (k : TrackSettings) (x : List ℤ) (i : ℕ) → track_settings_no k (pos 0) ≡ 0 → track_settings_no k (previous k x no_previous i).signal ≡ 0
unfolding previous after
type_accepted k x zero e = e
type_accepted k x (suc i) e = row_type_accepted k (next_row k (window (stored_settings k) x i) (previous k x no_previous i)) e

-- row i stands at its place in the rows
pub row_in : (s : TrackSettings) (x : List ℤ) (p : Prev) (k i : ℕ) (l : List ℤ) → i < k → take row_size (drop (i * row_size) (paper_numbers s x p k ++ l)) ≡ numbers (paper_row s x p i)
unfolding paper_numbers
row_in s x p zero i l h = absurd (omega arith)
row_in s x p (suc k) i l h =
    rw (append_assoc (paper_numbers s x p k) (numbers (paper_row s x p k)) l)
    (⊎_elim
    (λ (q : i < k). row_in s x p k i (numbers (paper_row s x p k) ++ l) q)
    (λ (q : k ≤ i).
    let e : i ≡ k = omega arith in
    rw (e, drop_at (paper_numbers s x p k) (numbers (paper_row s x p k) ++ l) (k * row_size) (length_rows s x p k))
    (take_at (numbers (paper_row s x p k)) l 8 refl))
    (lt_or_le i k))

-- row i of a table, by its eight numbers
pub row_read : (t : List ℤ) (i : ℕ) (r : Row) → take row_size (drop (i * row_size) t) ≡ numbers r → row_at t i ≡ r
unfolding row_at
row_read t i r e =
    rw (first, part 1 (omega arith), part 2 (omega arith), part 3 (omega arith), part 4 (omega arith), part 5 (omega arith), part 6 (omega arith), part 7 (omega arith))
  where
    part : (j : ℕ) → j < 8 → get_or t (i * row_size + j) (pos 0) ≡ get_or (numbers r) j (pos 0)
    part j h = sym (get_or-drop (i * row_size) t j (pos 0)) ∙ sym (get_or-take row_size (drop (i * row_size) t) j (pos 0) h) ∙ ap (λ (l : List ℤ). get_or l j (pos 0)) e

    first : get_or t (i * row_size) (pos 0) ≡ r.verdict
    first = ap (λ (k : ℕ). get_or t k (pos 0)) (sym (add-zero (i * row_size))) ∙ part 0 (omega arith)
