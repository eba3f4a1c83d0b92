-- Laws of a head: its size, and that what follows its bytes does not change what they say.
use Rattle.std.specs.Prelude.{◌≡◌, List, ◌++◌, ℕ, zero, suc, ◌+◌, ◌≤◌, ◌<◌, eqb, leb, true, false, length, Err, is_ok, refl}
use Rattle.std.proofs.Common.{arith, sym, eq-eqb, ne_eqb, le-leb, ap}
use Rattle.std.specs.Result.{result_unwrap_or}
use Rattle.std.proofs.Math.ListN.{get_or-append}
use Rattle.std.proofs.lemmas.Bool.{lt-leb}
use Rattle.pitch_input.specs.InputLaws.{signed_front, sample_front, settings_front}
use Rattle.track_settings.specs.TrackSettings.{fixed_settings}
use Rattle.recording_head.specs.declared.Kind.TheVariants as kinds
use Rattle.recording_head.specs.declared.Head.{Head}
use Rattle.recording_head.specs.declared.Head.TheVariants.{Plain, Options}
use Rattle.recording_head.specs.Head.{options_size, bytes_of_head, longest_head_size, kind_of, speech_in, second_in, options_settings, head_settings, head_known}

pub head_short : (head : Head) → bytes_of_head head ≤ longest_head_size
head_short Plain = omega arith
head_short Options = omega arith

module _ (b r : List ℕ) where
  speech_front : (at : ℕ) → at + 4 ≤ length b → speech_in (b ++ r) at ≡ speech_in b at
  unfolding speech_in
  speech_front at h = rw (get_or-append b r 0 at (omega arith), get_or-append b r 0 (at + 1) (omega arith), sample_front b r (at + 2) (omega arith))

  second_front : (kind at : ℕ) → at + 4 ≤ length b → second_in kind (b ++ r) at ≡ second_in kind b at
  unfolding second_in
  second_front kind at h = rw (speech_front at h, signed_front b r at h)

  options_front : options_size ≤ length b → options_settings (b ++ r) ≡ options_settings b
  unfolding options_settings
  options_front h =
      rw (get_or-append b r 0 0 (omega arith), get_or-append b r 0 1 (omega arith), get_or-append b r 0 2 (omega arith), get_or-append b r 0 3 (omega arith), signed_front b r 4 (omega arith), second_front _ 8 (omega arith))

  -- the settings
  pub head_front : (head : Head) → bytes_of_head head ≤ length b → head_settings head (b ++ r) ≡ head_settings head b
  unfolding head_settings
  head_front Plain h = ap fixed_settings (settings_front b r h)
  head_front Options h = options_front h

  -- and whether the options are known
  pub known_front : (head : Head) → bytes_of_head head ≤ length b → head_known head (b ++ r) ≡ head_known head b
  unfolding head_known
  known_front Plain h = refl
  known_front Options h = rw (get_or-append b r 0 3 (omega arith))

-- ---- the kinds, by their numbers
pub kind_known : (n : ℕ) → is_ok (kind_of n) ≡ leb n 1
unfolding kind_of
kind_known zero = sym (le-leb 0 1 (omega arith))
kind_known (suc zero) = sym (le-leb 1 1 (omega arith))
kind_known (suc (suc n)) = sym (lt-leb (suc (suc n)) 1 (omega arith))

-- and the kind that is read, a fixed threshold where no kind has the number
pub kind_speech : (n : ℕ) → result_unwrap_or (kind_of n) kinds.Fixed ≡ kinds.FromSpeech → eqb n 1 ≡ true
unfolding kind_of
kind_speech zero e = cc
kind_speech (suc zero) e = eq-eqb 1 1 refl
kind_speech (suc (suc n)) e = cc

pub kind_fixed : (n : ℕ) → result_unwrap_or (kind_of n) kinds.Fixed ≡ kinds.Fixed → eqb n 1 ≡ false
unfolding kind_of
kind_fixed zero e = ne_eqb 0 1 (λ z. absurd (omega (arith, z)))
kind_fixed (suc zero) e = cc
kind_fixed (suc (suc n)) e = ne_eqb (suc (suc n)) 1 (λ z. absurd (omega (arith, z)))

pub kind_none : (n : ℕ) → 1 < n → kind_of n ≡ Err (record {})
unfolding kind_of
kind_none zero h = absurd (omega arith)
kind_none (suc zero) h = absurd (omega arith)
kind_none (suc (suc n)) h = refl
