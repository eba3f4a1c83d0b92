-- Laws of a record's text: the refusal's number by cases, what a record that is not refused has, its text, and the whole outcome.
use Rattle.std.specs.Prelude.{Result, Ok, Err, IsErr, ◌≡◌, refl, Bool, true, false, cond, List, ℕ, ◌+◌, ◌*◌, ◌≤◌, ◌<◌, ltb, eqb, ℤ, length}
use Rattle.std.proofs.Common.{sym, arith, lt-ltb, le-ltb, ne_eqb, ltb-false, eqb-true}
use Rattle.std.proofs.lemmas.Bool.{eqb-false}
use Rattle.lists.specs.Fill.{overwritten}
use Rattle.pitch_settings.specs.declared.Settings.{Settings}
use Rattle.pitch_settings.specs.Settings.{settings_no, frame_length}
use Rattle.pitch_settings.specs.SettingsLaws.{accepted_settings}
use Rattle.pitch_input.specs.Input.{input_settings}
use Rattle.pitch_input.specs.InputLaws.{settings_small}
use Rattle.refusals.specs.declared.Refusal.{Refusal}
use Rattle.refusals.specs.Refusals.{refusal_number, number_told}
use Rattle.refusals.specs.RefusalsLaws.{refused_positive}
use Rattle.pitch_text.specs.Text.{row_text, refused_text}
use Rattle.frames_text.specs.Frames.{record_head, longest_record, record_size, record_length, record_no, record_samples, record_row, record_text, frame_printed, frame_samples_after, frame_text_call}

-- a record is no longer than the longest
pub sized : (s : Settings) (n : ℕ) → settings_no s ≡ 0 → n ≡ frame_length s → (record_head + 2 * n ≡ record_size s) × (record_head ≤ record_head + 2 * n) × (record_head + 2 * n ≤ longest_record)
unfolding record_size
sized s n e h = (omega arith, omega arith, omega (arith, (accepted_settings s e).small))

module _ (b : List ℕ) where
  -- ---- a head that is cut
  pub no_head : length b < record_head → 10 ≡ record_no b
  unfolding record_no
  no_head h = rw lt-ltb

  pub length_head : length b < record_head → length b ≡ record_length b
  unfolding record_length
  length_head h = rw lt-ltb

  module _ (enough : record_head ≤ length b) where
    -- ---- refused settings
    module _ (w : ℕ) (e : w ≡ settings_no (input_settings b)) (wrong : w ≡ 0 → ⊥) where
      pub no_wrong : w ≡ record_no b
      unfolding record_no
      no_wrong = rw (le-ltb (length b) record_head enough, ← e, ne_eqb w 0 wrong)

      pub length_wrong : length b ≡ record_length b
      unfolding record_length
      length_wrong = rw (le-ltb (length b) record_head enough, ← e, ne_eqb w 0 wrong)

    -- as an answer gives it
    pub no_refused : {A : Type 0} (w : Result A Refusal) → IsErr w → number_told w ≡ settings_no (input_settings b) → number_told w ≡ record_no b
    no_refused (Err w) i e = no_wrong (refusal_number w) e (refused_positive w refl)
    no_refused (Ok k) i e = cc

    -- ---- accepted ones
    module _ (known : settings_no (input_settings b) ≡ 0) where
      pub no_cut : length b < record_size (input_settings b) → 10 ≡ record_no b
      unfolding record_no
      no_cut h = rw (le-ltb (length b) record_head enough, known, lt-ltb (length b) (record_size (input_settings b)) h)

      pub no_none : record_size (input_settings b) ≤ length b → 0 ≡ record_no b
      unfolding record_no
      no_none h = rw (le-ltb (length b) record_head enough, known, le-ltb (length b) (record_size (input_settings b)) h)

      pub length_whole : record_size (input_settings b) ≡ record_length b
      unfolding record_length
      length_whole = rw (le-ltb (length b) record_head enough, known)

-- the number is small: a record's own rules end at 10
pub no_small : (b : List ℕ) → record_no b ≤ 10
unfolding record_no
no_small b = by (ltb (length b) record_head) (eqb (settings_no (input_settings b)) 0) (ltb (length b) (record_size (input_settings b))) (settings_small (input_settings b))
  where
    by : (x y z : Bool) → settings_no (input_settings b) ≤ 3 → cond x 10 (cond y (cond z 10 0) (settings_no (input_settings b))) ≤ 10
    by true y z h = omega arith
    by false true true h = omega arith
    by false true false h = omega arith
    by false false z h = omega arith

-- a record that is not refused
pub record Whole (b : List ℕ) : Type 0 where
  pub enough : record_head ≤ length b
  pub known : settings_no (input_settings b) ≡ 0
  pub full : record_size (input_settings b) ≤ length b

pub whole : (b : List ℕ) → 0 ≡ record_no b → Whole b
unfolding record_no
whole b e = by (ltb (length b) record_head) (eqb (settings_no (input_settings b)) 0) (ltb (length b) (record_size (input_settings b))) refl refl refl e
  where
    by : (x y z : Bool) → ltb (length b) record_head ≡ x → eqb (settings_no (input_settings b)) 0 ≡ y → ltb (length b) (record_size (input_settings b)) ≡ z → 0 ≡ cond x 10 (cond y (cond z 10 0) (settings_no (input_settings b))) → Whole b
    by true y z p q r h = absurd (omega arith)
    by false true true p q r h = absurd (omega arith)
    by false true false p q r h = record { enough = ltb-false _ _ p; known = eqb-true _ _ q; full = ltb-false _ _ r }
    by false false z p q r h = absurd (eqb-false _ _ q (sym h))

-- ---- the text
pub text_refused : (b : List ℕ) (n : ℕ) → n ≡ record_no b → (n ≡ 0 → ⊥) → refused_text n ≡ record_text b
unfolding record_text
text_refused b n e h = rw (← e, ne_eqb n 0 h)

pub text_row : (b : List ℕ) → 0 ≡ record_no b → row_text (input_settings b).nb (record_row b) ≡ record_text b
unfolding record_text
text_row b e = rw (← e)

-- ---- the samples
pub samples_stay : (b : List ℕ) (x : List ℤ) (n : ℕ) → n ≡ record_no b → (n ≡ 0 → ⊥) → x ≡ frame_samples_after b x
unfolding frame_samples_after
samples_stay b x n e h = rw (← e, ne_eqb n 0 h)

pub samples_taken : (b : List ℕ) (x : List ℤ) → 0 ≡ record_no b → {y : List ℤ} → y ≡ overwritten (record_samples b) x → y ≡ frame_samples_after b x
unfolding frame_samples_after
samples_taken b x e p = rw (← e) p

-- ---- the whole outcome: the text that is laid over the front of `out`
pub outcome : (b out : List ℕ) (x : List ℤ) {len : ℕ} (answer : Result Unit Refusal) {after : List ℕ} {y : List ℤ} → len ≡ length (record_text b) → number_told answer ≡ record_no b → after ≡ overwritten (record_text b) out → y ≡ frame_samples_after b x
    → frame_printed (record { len = len; answer = answer }) after y ≡ frame_text_call b out x
unfolding frame_text_call
outcome b out x answer count said over left = λ i. record { len = count i; number = said i; out = over i; samples = left i }
