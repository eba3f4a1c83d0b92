-- What settings that a sheet can hold say, and so settings that are analysed: the rate, the subframe count, the complexity, and bounds on the sizes.
use Rattle.std.specs.Prelude.{◌≡◌, refl, Bool, true, false, ◌||◌, cond, ◌⊎◌, ℕ, ◌≤◌, ◌<◌, eqb}
use Rattle.std.proofs.Common.{inl, inr, ⊎_elim, arith, eqb-true, leb-true}
use Rattle.std.proofs.lemmas.Bool.{or_cases}
use Rattle.pitch_settings.specs.declared.Settings.{Settings}
use Rattle.pitch_settings.specs.Settings.{rate_known, subframes_known, complexity_analysed, complexity_held, settings_refusal, settings_no, held_no, frame_length, hop_length}

pub record Accepted (s : Settings) : Type 0 where
  pub rate : (s.rate ≡ 8) ⊎ ((s.rate ≡ 12) ⊎ (s.rate ≡ 16))
  pub subframes : (s.nb ≡ 2) ⊎ (s.nb ≡ 4)
  pub complexity : s.complexity ≤ 2
  pub rate_low : 8 ≤ s.rate
  pub rate_high : s.rate ≤ 16
  pub nb_low : 2 ≤ s.nb
  pub nb_high : s.nb ≤ 4
  pub some : 0 < hop_length s
  pub within : hop_length s ≤ frame_length s
  pub small : frame_length s ≤ 640

rates : (rate : ℕ) → rate_known rate ≡ true → (rate ≡ 8) ⊎ ((rate ≡ 12) ⊎ (rate ≡ 16))
unfolding rate_known
rates rate e =
    ⊎_elim (λ h. inl (eqb-true rate 8 h))
    (λ k. inr (⊎_elim (λ h. inl (eqb-true rate 12 h)) (λ h. inr (eqb-true rate 16 h)) (or_cases (eqb rate 12) (eqb rate 16) k)))
    (or_cases (eqb rate 8) (eqb rate 12 || eqb rate 16) e)

counts : (nb : ℕ) → subframes_known nb ≡ true → (nb ≡ 2) ⊎ (nb ≡ 4)
unfolding subframes_known
counts nb e = ⊎_elim (λ h. inl (eqb-true nb 2 h)) (λ h. inr (eqb-true nb 4 h)) (or_cases (eqb nb 2) (eqb nb 4) e)

-- ---- the refusal by its tests

record Known (rate nb : ℕ) (known : Bool) : Type 0 where
  rate_is : rate_known rate ≡ true
  nb_is : subframes_known nb ≡ true
  complexity_is : known ≡ true

all_known : (rate nb : ℕ) (known : Bool) → settings_refusal rate nb known ≡ 0 → Known rate nb known
all_known rate nb known h = by (rate_known rate) (subframes_known nb) known refl refl refl h
  where
    by : (a b c : Bool) → rate_known rate ≡ a → subframes_known nb ≡ b → known ≡ c → ◌≡◌ {A = ℕ} (cond a (cond b (cond c 0 3) 2) 1) 0 → Known rate nb known
    by true true true p q r e = record { rate_is = p; nb_is = q; complexity_is = r }
    by true true false p q r e = absurd (omega arith)
    by true false c p q r e = absurd (omega arith)
    by false b c p q r e = absurd (omega arith)

-- ---- settings that are analysed can be held

complexity_both : (complexity : ℕ) → complexity_analysed complexity ≡ true → complexity_held complexity ≡ true
complexity_both complexity h = h

pub analysed_held : (s : Settings) → settings_no s ≡ 0 → held_no s ≡ 0
unfolding settings_no held_no
analysed_held s h =
    let k = all_known s.rate s.nb (complexity_analysed s.complexity) h in
    rw (k.rate_is, k.nb_is, complexity_both s.complexity k.complexity_is)

-- ---- what they say

by_nb : (s : Settings) → (s.rate ≡ 8) ⊎ ((s.rate ≡ 12) ⊎ (s.rate ≡ 16)) → s.complexity ≤ 2 → 8 ≤ s.rate → s.rate ≤ 16 → (s.nb ≡ 2) ⊎ (s.nb ≡ 4) → Accepted s
unfolding frame_length hop_length
by_nb s r c l h (inl e) = record { rate = r; subframes = inl e; complexity = c; rate_low = l; rate_high = h; nb_low = omega arith; nb_high = omega arith; some = rw e (omega arith); within = rw e (omega arith); small = rw e (omega arith) }
by_nb s r c l h (inr e) = record { rate = r; subframes = inr e; complexity = c; rate_low = l; rate_high = h; nb_low = omega arith; nb_high = omega arith; some = rw e (omega arith); within = rw e (omega arith); small = rw e (omega arith) }

-- settings that a sheet can hold
pub held_settings : (s : Settings) → held_no s ≡ 0 → Accepted s
unfolding held_no
held_settings s h =
    let k = all_known s.rate s.nb (complexity_held s.complexity) h in
    let fs = rates s.rate k.rate_is in
    by_nb s fs (leb-true s.complexity 2 k.complexity_is)
    (⊎_elim (λ e. omega arith) (λ g. ⊎_elim (λ e. omega arith) (λ e. omega arith) g) fs)
    (⊎_elim (λ e. omega arith) (λ g. ⊎_elim (λ e. omega arith) (λ e. omega arith) g) fs)
    (counts s.nb k.nb_is)

-- settings that are analysed
pub accepted_settings : (s : Settings) → settings_no s ≡ 0 → Accepted s
accepted_settings s h = held_settings s (analysed_held s h)
