-- Laws of the program's text: the settings and samples of an input's first bytes, the limit of the frames that a program takes, the refusal's number, the whole outcome, and the rows of a fresh track.
use Rattle.std.specs.Prelude.{Result, Ok, Err, IsErr, Bool, List, [], ◌∷◌, ◌++◌, ℕ, ◌+◌, ◌-◌, ◌*◌, ◌/◌, ◌%◌, ◌≤◌, ◌<◌, ltb, leb, ℤ, pos, take, replicate, ◌≡◌, refl, true, false, cond, eqb, length}
use Rattle.std.proofs.Common.{◌∙◌, subst, append-nil, arith, length-append, sym, ap, ⊎_elim, lt-ltb, le-ltb, le-leb, eq-eqb, ne_eqb, ltb-false, eqb-true}
use Rattle.std.proofs.lemmas.Bool.{or_parts, lt-leb, eqb-false}
use Rattle.std.proofs.lemmas.List.{length-replicate, nil_from_length}
use Rattle.lists.specs.Fill.{overwritten}
use Rattle.lists.specs.PushLaws.{take_overwritten}
use Rattle.pitch_input.specs.InputLaws.{settings_small, length_samples}
use Rattle.pitch_settings.specs.declared.Settings.{Settings}
use Rattle.pitch_settings.specs.Settings.{settings_no, frame_length, hop_length}
use Rattle.pitch_settings.specs.SettingsLaws.{accepted_settings}
use Rattle.speech_threshold.specs.Threshold.{in_range, threshold_no}
use Rattle.track_settings.specs.declared.SecondThreshold.{SecondThreshold}
use Rattle.track_settings.specs.declared.SecondThreshold.TheVariants.{Fixed, FromSpeech}
use Rattle.track_settings.specs.declared.TrackSettings.{TrackSettings}
use Rattle.track_settings.specs.TrackSettings.{stored_settings, second_no, track_settings_no}
use Rattle.track_settings.specs.TrackSettingsLaws.{known}
use Rattle.track_paper.specs.Paper.{F, paper_table}
use Rattle.track_paper.specs.FramesLaws.{lt_or_le, fits, many}
use Rattle.refusals.specs.declared.Refusal.{Refusal}
use Rattle.refusals.specs.Refusals.{refusal_number, told, number_told}
use Rattle.refusals.specs.RefusalsLaws.{refused_positive}
use Rattle.recording_head.specs.declared.Head.{Head}
use Rattle.recording_head.specs.Head.{bytes_of_head, head_settings, head_known}
use Rattle.recording_head.specs.HeadLaws.{head_short, head_front, known_front}
use Rattle.pitch_recording.specs.declared.Recording.{Recording}
use Rattle.pitch_recording.specs.Recording.{program_frames, longest_hop, recording_samples, recording_bytes, samples_in, half_input, recording_of, first_recording_refusal, recording_no, recording_answer, samples_after, TakeOutcome, take_outcome, take_call, recording_printed, table_after, printed_for}

-- ---- the limit
pub hop_small : (s : Settings) → settings_no s ≡ 0 → hop_length s ≤ longest_hop
unfolding hop_length
hop_small s e =
    let a = accepted_settings s e in
    ⊎_elim (λ (q : s.nb ≡ 2). rw q (omega (arith, a.rate_high))) (λ (q : s.nb ≡ 4). rw q (omega (arith, a.rate_high))) a.subframes

module _ (s : Settings) (e : settings_no s ≡ 0) (n : ℕ) where
  -- more than the frames that a program takes
  pub long_is : leb (program_frames * hop_length s + frame_length s) n ≡ ltb program_frames (F s n)
  long_is =
      let a = accepted_settings s e in
      ⊎_elim
      (λ (q : n < program_frames * hop_length s + frame_length s).
      lt-leb _ _ q
      ∙ sym (le-ltb _ _ (⊎_elim (λ (g : program_frames < F s n). omega (arith, fits (frame_length s) (hop_length s) a.some a.within n program_frames g)) (λ (g : F s n ≤ program_frames). g) (lt_or_le program_frames (F s n)))))
      (λ (q : program_frames * hop_length s + frame_length s ≤ n).
      le-leb _ _ q ∙ sym (lt-ltb _ _ (many (frame_length s) (hop_length s) a.some a.within n program_frames q)))
      (lt_or_le n (program_frames * hop_length s + frame_length s))

  -- the last frame lies within the samples
  pub last_frame : (f : ℕ) → f ≡ F s n → (f ≡ 0 → ⊥) → (f - 1) * hop_length s + frame_length s ≤ n
  last_frame f g h =
      let a = accepted_settings s e in
      ⊎_elim (λ (q : 0 < f). fits (frame_length s) (hop_length s) a.some a.within n (f - 1) (omega arith)) (λ (q : f ≤ 0). absurd (h (omega arith))) (lt_or_le 0 f)

  -- `recording_samples` are too many at every setting
  pub too_many : recording_samples ≤ n → program_frames < F s n
  too_many h =
      let a = accepted_settings s e in
      many (frame_length s) (hop_length s) a.some a.within n program_frames (omega (arith, hop_small s e, a.small))

  pub few_samples : F s n ≤ program_frames → n < recording_samples
  few_samples h = ⊎_elim (λ (q : n < recording_samples). q) (λ (q : recording_samples ≤ n). absurd (omega (arith, too_many q))) (lt_or_le n recording_samples)

-- ---- an input
pub samples_count : (head : Head) (b : List ℕ) → length (samples_in head b) ≡ (length b - bytes_of_head head) / 2
unfolding samples_in
samples_count head b = length_samples b (bytes_of_head head) ((length b - bytes_of_head head) / 2)

-- as many bytes have too many samples after each head
samples_over : (head : Head) (b : List ℕ) → recording_bytes ≤ length b → recording_samples ≤ length (samples_in head b)
samples_over head b h = rw (samples_count head b) (omega (arith, head_short head))

-- ---- the refusal's number, from the first bytes b, the head's size and the count of those that follow
module _ (head : Head) (b r : List ℕ) (size more : ℕ) (sized : size ≡ bytes_of_head head) (rest : length r ≡ more) (full : 0 < more → recording_bytes ≤ length b) where
  -- 1 where there is an odd sample byte
  abbrev odd : ℕ
  odd = (length b - size + more % 2) % 2

  whole : length (b ++ r) ≡ length b + more
  whole = length-append b r ∙ ap (λ (n : ℕ). length b + n) rest

  pub no_short : length b < size → 10 ≡ recording_no head (b ++ r)
  unfolding recording_no first_recording_refusal half_input
  no_short h =
      let l : length (b ++ r) < bytes_of_head head =
      ⊎_elim (λ (q : 0 < more). absurd (omega (arith, full q, head_short head))) (λ (q : more ≤ 0). omega (arith, whole)) (lt_or_le 0 more) in
      rw (lt-ltb (length (b ++ r)) (bytes_of_head head) l)

  module _ (enough : size ≤ length b) where
    there : bytes_of_head head ≤ length b
    there = omega arith

    half_is : eqb odd 1 ≡ half_input head (b ++ r)
    unfolding half_input
    half_is =
        let l : bytes_of_head head ≤ length (b ++ r) = omega (arith, whole) in
        let e : (length b - size + more % 2) % 2 ≡ (length (b ++ r) - bytes_of_head head) % 2 = omega (arith, whole) in
        rw (le-ltb (length (b ++ r)) (bytes_of_head head) l, e)

    settings_is : track_settings_no (head_settings head b) (pos 0) ≡ track_settings_no (head_settings head (b ++ r)) (pos 0)
    settings_is = ap (λ (k : TrackSettings). track_settings_no k (pos 0)) (sym (head_front b r head there))

    -- an odd sample byte
    pub no_half : odd ≡ 1 → 10 ≡ recording_no head (b ++ r)
    unfolding recording_no first_recording_refusal
    no_half h = rw (sym half_is ∙ eq-eqb odd 1 h)

    -- refused settings
    pub no_wrong : (w : ℕ) → w ≡ track_settings_no (head_settings head b) (pos 0) → (w ≡ 0 → ⊥) → first_recording_refusal (eqb odd 1) w false true ≡ recording_no head (b ++ r)
    unfolding recording_no first_recording_refusal
    no_wrong w e h = rw (half_is, ← settings_is, ← e, ne_eqb w 0 h)

    module _ (e : track_settings_no (head_settings head b) (pos 0) ≡ 0) where
      right : track_settings_no (head_settings head (b ++ r)) (pos 0) ≡ 0
      right = sym settings_is ∙ e

      -- more bytes than are at hand: too many frames
      pub no_more : 0 < more → first_recording_refusal (eqb odd 1) 0 true true ≡ recording_no head (b ++ r)
      unfolding recording_no first_recording_refusal
      no_more h =
          let n = samples_over head (b ++ r) (omega (arith, whole, full h)) in
          rw (half_is, right, lt-ltb program_frames _ (too_many (stored_settings (head_settings head (b ++ r))) (known _ (pos 0) right) (length (samples_in head (b ++ r))) n))

      -- all bytes at hand
      pub no_all : more ≤ 0
          → first_recording_refusal (eqb odd 1) 0 (ltb program_frames (F (stored_settings (head_settings head b)) ((length b - size) / 2))) (head_known head b) ≡ recording_no head (b ++ r)
      unfolding recording_no
      no_all h =
          let n : (length b - size) / 2 ≡ length (samples_in head (b ++ r)) = omega (arith, samples_count head (b ++ r), whole) in
          rw (half_is, right, ← head_front b r head there, ← known_front b r head there, n)

    -- of an even number of sample bytes, as the code asks
    module _ (even : odd ≡ 1 → ⊥) where
      no_odd : eqb odd 1 ≡ false
      no_odd = ne_eqb odd 1 even

      refused_even : (n : ℕ) → (n ≡ 0 → ⊥) → first_recording_refusal (eqb odd 1) n false true ≡ n
      unfolding first_recording_refusal
      refused_even n some = rw (no_odd, ne_eqb n 0 some)

      -- an answer that the settings are refused
      pub no_refused : {A : Type 0} (w : Result A Refusal) → IsErr w → number_told w ≡ track_settings_no (head_settings head b) (pos 0) → number_told w ≡ recording_no head (b ++ r)
      no_refused (Err w) i e = let some = refused_positive w refl in sym (refused_even (refusal_number w) some) ∙ no_wrong (refusal_number w) e some
      no_refused (Ok k) i e = cc

      module _ (e : track_settings_no (head_settings head b) (pos 0) ≡ 0) where
        pub even_more : 0 < more → 6 ≡ recording_no head (b ++ r)
        unfolding first_recording_refusal
        even_more h = sym (ap (λ (t : Bool). first_recording_refusal t 0 true true) no_odd) ∙ no_more e h

        pub even_all : more ≤ 0
            → first_recording_refusal false 0 (ltb program_frames (F (stored_settings (head_settings head b)) ((length b - size) / 2))) (head_known head b) ≡ recording_no head (b ++ r)
        even_all h = sym (ap (λ (t : Bool). first_recording_refusal t 0 (ltb program_frames (F (stored_settings (head_settings head b)) ((length b - size) / 2))) (head_known head b)) no_odd) ∙ no_all e h

-- no refusal: none of the four
first_none : (half : Bool) (wrong : ℕ) (long known : Bool) → 0 ≡ first_recording_refusal half wrong long known → (half ≡ false) × (wrong ≡ 0) × (long ≡ false)
unfolding first_recording_refusal
first_none true wrong long known e = absurd (omega arith)
first_none false wrong long known e = by (eqb wrong 0) long refl e
  where
    by : (w l : Bool) → eqb wrong 0 ≡ w → 0 ≡ cond w (cond l 6 (cond known 0 9)) wrong → (false ≡ false) × (wrong ≡ 0) × (l ≡ false)
    by true true p q = absurd (omega arith)
    by true false p q = (refl, eqb-true wrong 0 p, refl)
    by false l p q = absurd (eqb-false wrong 0 p (sym q))

not_half : (head : Head) (b : List ℕ) → half_input head b ≡ false → bytes_of_head head ≤ length b
unfolding half_input
not_half head b e = ltb-false (length b) (bytes_of_head head) (or_parts _ _ e).0

-- an input that is not refused
pub record Ready (head : Head) (b : List ℕ) : Type 0 where
  pub enough : bytes_of_head head ≤ length b
  pub analysed : settings_no (stored_settings (head_settings head b)) ≡ 0
  pub few : F (stored_settings (head_settings head b)) (length (samples_in head b)) ≤ program_frames

pub ready : (head : Head) (b : List ℕ) → 0 ≡ recording_no head b → Ready head b
unfolding recording_no
ready head b e =
    let f = first_none _ _ _ _ e in
    record { enough = not_half head b f.0; analysed = known _ (pos 0) f.1; few = ltb-false program_frames _ f.2 }

-- an input that goes on past `recording_bytes` is refused, so the bytes at hand are all
pub none_more : (head : Head) (b r : List ℕ) → (0 < length r → recording_bytes ≤ length b) → Ready head (b ++ r) → r ≡ []
none_more head b [] h q = refl
none_more head b (x ∷ r) h q =
    let l : recording_bytes ≤ length b = h (omega arith) in
    let n = samples_over head (b ++ (x ∷ r)) (rw length-append (omega arith)) in
    absurd (omega (arith, too_many (stored_settings (head_settings head (b ++ (x ∷ r)))) q.analysed _ n, q.few))

-- the number is small
second_small : (t : SecondThreshold) (type : ℤ) → second_no t type ≤ 11
unfolding threshold_no
second_small (Fixed thres2) type = omega arith
second_small (FromSpeech m) type = by (in_range m.order m.activity type m.tilt)
  where
    by : (b : Bool) → cond b 0 11 ≤ 11
    by true = omega arith
    by false = omega arith

track_settings_small : (k : TrackSettings) (type : ℤ) → track_settings_no k type ≤ 11
unfolding track_settings_no
track_settings_small k type = by (eqb (settings_no (stored_settings k)) 0)
  where
    by : (b : Bool) → cond b (second_no k.thres2 type) (settings_no (stored_settings k)) ≤ 11
    by true = second_small k.thres2 type
    by false = omega (arith, settings_small (stored_settings k))

first_small : (half : Bool) (wrong : ℕ) (long known : Bool) → wrong ≤ 11 → first_recording_refusal half wrong long known ≤ 11
unfolding first_recording_refusal
first_small half wrong long known h = by half (eqb wrong 0) long known
  where
    by : (x y z w : Bool) → cond x 10 (cond y (cond z 6 (cond w 0 9)) wrong) ≤ 11
    by true y z w = omega arith
    by false true true w = omega arith
    by false true false true = omega arith
    by false true false false = omega arith
    by false false z w = omega arith

pub no_small : (head : Head) (b : List ℕ) → recording_no head b ≤ 11
unfolding recording_no
no_small head b = first_small _ _ _ _ (track_settings_small (head_settings head b) (pos 0))

-- what holds of an input with any bytes after those at hand: where it is not refused, there are none
pub at_hand : (head : Head) (b : List ℕ) (more n : ℕ) → (0 < more → recording_bytes ≤ length b) → ((r : List ℕ) → length r ≡ more → n ≡ recording_no head (b ++ r)) → n ≡ 0
    → (more ≡ 0) × Ready head b
at_hand head b more n full f z =
    let r = replicate {A = ℕ} more 0 in
    let l = length-replicate {0} {A = ℕ} more 0 in
    let q = ready head (b ++ r) (sym z ∙ f r l) in
    let e = none_more head b r (λ h. full (omega arith)) q in
    (sym l ∙ ap length e, subst (Ready head) (ap (λ (t : List ℕ). b ++ t) e ∙ append-nil b) q)

-- no byte follows
pub none_after : (b r : List ℕ) (more : ℕ) → more ≡ 0 → length r ≡ more → b ++ r ≡ b
none_after b r more m l = ap (λ (t : List ℕ). b ++ t) (nil_from_length r (l ∙ m)) ∙ append-nil b

-- ---- the whole outcome: a text that is laid over the front of `out`
module _ (head : Head) (b text out : List ℕ) (x t : List ℤ) {len : ℕ} {after : List ℕ} (count : len ≡ length text) (over : after ≡ overwritten text out) where
  -- a refusal leaves samples and table
  pub printed_refused : (n : ℕ) → n ≡ recording_no head b → (n ≡ 0 → ⊥) → recording_printed len after x t ≡ printed_for head b text out x t
  unfolding printed_for samples_after table_after
  printed_refused n e h = rw (← e, ne_eqb n 0 h) (λ i. recording_printed (count i) (over i) x t)

  pub printed_taken : recording_no head b ≡ 0 → {y u : List ℤ} → y ≡ overwritten (samples_in head b) x → u ≡ paper_table (head_settings head b) t (samples_in head b)
      → recording_printed len after y u ≡ printed_for head b text out x t
  unfolding printed_for samples_after table_after
  printed_taken e p q = rw (eq-eqb (recording_no head b) 0 e) (λ i. recording_printed (count i) (over i) (p i) (q i))

-- ---- what `take_recording` says and leaves, for the input b

-- an input that is taken, with these settings and n samples
pub record IsTaken (head : Head) (b : List ℕ) (before : List ℤ) (k : TrackSettings) (n : ℕ) (samples : List ℤ) : Type 0 where
  pub no_refusal : recording_no head b ≡ 0
  pub settings_are : k ≡ head_settings head b
  pub samples_are : samples ≡ overwritten (samples_in head b) before
  pub front : take n samples ≡ samples_in head b
  pub accepted : track_settings_no k (pos 0) ≡ 0
  pub analysed : settings_no (stored_settings k) ≡ 0
  pub few : F (stored_settings k) n ≤ program_frames
  pub count : n ≡ length (samples_in head b)

-- one that is refused with n
pub record IsRefused (head : Head) (b : List ℕ) (before : List ℤ) (n : ℕ) (samples : List ℤ) : Type 0 where
  pub number_is : n ≡ recording_no head b
  pub some_number : n ≡ 0 → ⊥
  pub small : n ≤ 11
  pub samples_stay : samples ≡ before

-- the settings of an input that is not refused
settings_taken : (head : Head) (b : List ℕ) → 0 ≡ recording_no head b → track_settings_no (head_settings head b) (pos 0) ≡ 0
unfolding recording_no
settings_taken head b e = (first_none _ _ _ _ e).1

module _ (head : Head) (b : List ℕ) (before samples : List ℤ) (r : Result Recording Refusal) (e : take_outcome (told r) samples ≡ take_call head b before) where
  answer_is : told r ≡ recording_answer head b
  unfolding take_call
  answer_is = ap (λ (o : TakeOutcome). o.answer) e

  left_is : samples ≡ samples_after head b before
  unfolding take_call
  left_is = ap (λ (o : TakeOutcome). o.samples) e

  pub is_taken : (k : Recording) → r ≡ Ok k → IsTaken head b before k.settings k.samples samples
  unfolding recording_answer samples_after
  is_taken k g = by (eqb (recording_no head b) 0) refl (sym (ap told g) ∙ answer_is) left_is
    where
      by : (q : Bool) → eqb (recording_no head b) 0 ≡ q → Ok k ≡ cond q (Ok (recording_of head b)) (Err (recording_no head b))
          → samples ≡ cond q (overwritten (samples_in head b) before) before → IsTaken head b before k.settings k.samples samples
      by true p a y =
          let z = eqb-true (recording_no head b) 0 p in
          let q = ready head b (sym z) in
          let whole : k ≡ recording_of head b = cc in
          let ek : k.settings ≡ head_settings head b = ap (λ (t : Recording). t.settings) whole in
          let en : k.samples ≡ length (samples_in head b) = ap (λ (t : Recording). t.samples) whole in
          let ok = ap (λ (t : TrackSettings). track_settings_no t (pos 0)) ek ∙ settings_taken head b (sym z) in
          record {
            no_refusal = z;
            settings_are = ek;
            samples_are = y;
            front = ap (take k.samples) y ∙ take_overwritten (samples_in head b) before k.samples (sym en);
            accepted = ok;
            analysed = known k.settings (pos 0) ok;
            few = rw (ek, en) q.few;
            count = en;
          }
      by false p a y = let z : ◌≡◌ {A = ℕ} 0 1 = cc in absurd (omega arith)

  pub is_refused : (n : Refusal) → r ≡ Err n → IsRefused head b before (refusal_number n) samples
  unfolding recording_answer samples_after
  is_refused n g = by (eqb (recording_no head b) 0) refl (sym (ap told g) ∙ answer_is) left_is
    where
      by : (q : Bool) → eqb (recording_no head b) 0 ≡ q → Err (refusal_number n) ≡ cond q (Ok (recording_of head b)) (Err (recording_no head b))
          → samples ≡ cond q (overwritten (samples_in head b) before) before → IsRefused head b before (refusal_number n) samples
      by true p a y = let z : ◌≡◌ {A = ℕ} 0 1 = cc in absurd (omega arith)
      by false p a y =
          let k : refusal_number n ≡ recording_no head b = cc in
          record { number_is = k; some_number = refused_positive n refl; small = omega (arith, k, no_small head b); samples_stay = y }

-- bytes that may follow
abbrev pub any_rest : ℕ → List ℕ
any_rest more = replicate more 0

pub length-any_rest : (more : ℕ) → length (any_rest more) ≡ more
length-any_rest more = length-replicate {0} {A = ℕ} more 0

-- what is known of an input that is taken, whatever bytes follow; and its samples have room
pub any_taken : (head : Head) (b : List ℕ) (x y : List ℤ) (r : Result Recording Refusal) (more : ℕ) (k : Recording)
    → ((rest : List ℕ) → length rest ≡ more → take_outcome (told r) y ≡ take_call head (b ++ rest) x) → r ≡ Ok k → IsTaken head (b ++ any_rest more) x k.settings k.samples y
any_taken head b x y r more k f e = is_taken _ _ _ _ _ (f (any_rest more) (length-any_rest more)) _ e

pub taken_room : (head : Head) (b : List ℕ) (x y : List ℤ) (n : ℕ) (k : TrackSettings) → IsTaken head b x k n y → length y ≡ length x → recording_samples ≤ length x → n ≤ length y
taken_room head b x y n k t e h = omega (arith, few_samples _ t.analysed n t.few)

-- the outcome, from the number and the samples that were loaded
pub refused_outcome : (head : Head) (b : List ℕ) (x : List ℤ) (n : ℕ) → n ≡ recording_no head b → (n ≡ 0 → ⊥) → take_outcome (Err n) x ≡ take_call head b x
unfolding take_call recording_answer samples_after
refused_outcome head b x n e h = rw (← e, ne_eqb n 0 h)

-- of an answer that is a refusal
pub refused_answer : (head : Head) (b : List ℕ) (x : List ℤ) (r : Result Recording Refusal) → IsErr r → number_told r ≡ recording_no head b → take_outcome (told r) x ≡ take_call head b x
refused_answer head b x (Err n) i e = refused_outcome head b x (refusal_number n) e (refused_positive n refl)
refused_answer head b x (Ok k) i e = cc

pub taken_outcome : (head : Head) (b : List ℕ) (x y : List ℤ) (k : TrackSettings) (n : ℕ) → recording_no head b ≡ 0 → k ≡ head_settings head b → n ≡ length (samples_in head b) → y ≡ overwritten (samples_in head b) x
    → take_outcome (Ok (record { settings = k; samples = n })) y ≡ take_call head b x
unfolding take_call recording_answer samples_after
taken_outcome head b x y k n z ek en ey = rw (eq-eqb (recording_no head b) 0 z) (λ i. take_outcome (Ok (record { settings = ek i; samples = en i })) (ey i))
