-- Laws of an input's bytes: what follows the bytes of a number or of the settings does not change them, how many samples there are, and where they are loaded; and how large the settings' number is.
use Rattle.std.specs.Prelude.{◌≡◌, Bool, true, false, cond, ℕ, ◌+◌, ◌*◌, ◌≤◌, leb, ℤ, length, take, List, ◌++◌, drop}
use Rattle.std.proofs.Common.{sym, ◌∙◌, arith, length-drop, length-take-le, ap}
use Rattle.std.proofs.Math.ListN.{get_or-append}
use Rattle.std.proofs.lemmas.List.{drop-append-le, take-append-le}
use Rattle.lists.specs.Fill.{filled, overwritten}
use Rattle.lists.specs.FillLaws.{filled_all, length_tabulate}
use Rattle.lists.specs.PushLaws.{take_overwritten}
use Rattle.sheet_bytes.specs.Bytes.{number_at, signed_at}
use Rattle.pitch_settings.specs.declared.Settings.{Settings}
use Rattle.pitch_settings.specs.Settings.{rate_known, subframes_known, settings_no}
use Rattle.pitch_input.specs.Input.{head_size, input_settings, sample_at, samples_from}

number_front : (k : ℕ) (b r : List ℕ) (at : ℕ) → at + k ≤ length b → number_at k (b ++ r) at ≡ number_at k b at
unfolding number_at
number_front k b r at h = rw (drop-append-le at b r (omega arith), take-append-le k (drop at b) r (rw length-drop (omega arith)))

pub signed_front : (b r : List ℕ) (at : ℕ) → at + 4 ≤ length b → signed_at (b ++ r) at ≡ signed_at b at
unfolding signed_at
signed_front b r at h = rw (number_front 4 b r at h)

pub sample_front : (b r : List ℕ) (at : ℕ) → at + 2 ≤ length b → sample_at (b ++ r) at ≡ sample_at b at
unfolding sample_at
sample_front b r at h = rw (number_front 2 b r at h)

pub settings_front : (b r : List ℕ) → head_size ≤ length b → input_settings (b ++ r) ≡ input_settings b
unfolding input_settings
settings_front b r h =
    rw (get_or-append b r 0 0 (omega arith), get_or-append b r 0 1 (omega arith), get_or-append b r 0 2 (omega arith), signed_front b r 3 (omega arith), signed_front b r 7 (omega arith))

pub length_samples : (b : List ℕ) (at n : ℕ) → length (samples_from b at n) ≡ n
unfolding samples_from
length_samples b at n = length_tabulate _ n

-- a list that is filled to its end with samples
pub samples_filled : (b : List ℕ) (at n : ℕ) (out : List ℤ) → length out ≡ n → filled (λ (k : ℕ). sample_at b (at + 2 * k)) n out ≡ samples_from b at n
unfolding samples_from
samples_filled b at n out e = filled_all (λ (k : ℕ). sample_at b (at + 2 * k)) n out (omega arith)

-- samples that are loaded into the front of x: the whole list, and its front
module _ (b : List ℕ) (at n : ℕ) (x out : List ℤ) (h : n ≤ length x) (e : out ≡ samples_from b at (length (take n x))) where
  pub loaded_over : out ++ drop n x ≡ overwritten (samples_from b at n) x
  unfolding overwritten
  loaded_over =
      let o = e ∙ ap (samples_from b at) (length-take-le n x h) in
      let m = length_samples b at n in
      ap (λ (l : List ℤ). l ++ drop n x) o ∙ ap (λ (k : ℕ). samples_from b at n ++ drop k x) (sym m)

  pub loaded : take n (out ++ drop n x) ≡ samples_from b at n
  loaded = ap (take n) loaded_over ∙ take_overwritten (samples_from b at n) x n (length_samples b at n)

-- a refusal of settings is 1, 2 or 3
pub settings_small : (s : Settings) → settings_no s ≤ 3
unfolding settings_no
settings_small s = by (rate_known s.rate) (subframes_known s.nb) (leb s.complexity 2)
  where
    by : (p q r : Bool) → cond p (cond q (cond r 0 3) 2) 1 ≤ 3
    by true true true = omega arith
    by true true false = omega arith
    by true false r = omega arith
    by false q r = omega arith
