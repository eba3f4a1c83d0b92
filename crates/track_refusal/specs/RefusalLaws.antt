-- What each test says of `delivery_refusal`, and what is known of a delivery that is not refused.
use Rattle.std.proofs.Common.{sym, ◌∙◌, ⊎_elim, arith, eq-eqb, ne_eqb, lt-ltb, le-ltb, le-leb}
use Rattle.std.specs.Prelude.{ℕ, ◌+◌, ◌*◌, ◌/◌, ◌≤◌, ◌<◌, ◌≡◌, false, ltb, leb, ℤ}
use Rattle.std.proofs.lemmas.Bool.{lt-leb}
use Rattle.pitch_settings.specs.declared.Settings.{Settings}
use Rattle.pitch_settings.specs.Settings.{frame_length, settings_no}
use Rattle.track_settings.specs.declared.TrackSettings.{TrackSettings}
use Rattle.track_settings.specs.TrackSettings.{stored_settings, track_settings_no}
use Rattle.track_settings.specs.TrackSettingsLaws.{known}
use Rattle.pitch_table.specs.Row.{row_size}
use Rattle.track_paper.specs.declared.Limit.{Limit}
use Rattle.track_paper.specs.Paper.{F}
use Rattle.track_paper.specs.FramesLaws.{lt_or_le, eq_or_ne}
use Rattle.track_refusal.specs.Refusal.{first_refusal, delivery_refusal}

module _ (l : Limit ℕ) (k : TrackSettings) (type : ℤ) (f h d n : ℕ) where
  abbrev s : Settings
  s = stored_settings k

  pub bad : (track_settings_no k type ≡ 0 → ⊥) → delivery_refusal l k type f h d n ≡ track_settings_no k type
  unfolding delivery_refusal
  bad p = rw (ne_eqb _ _ p)

  module _ (ok : track_settings_no k type ≡ 0) where
    pub over : l.frames < f + F s (h + d) → delivery_refusal l k type f h d n ≡ l.refusal
    unfolding delivery_refusal
    over p = rw (eq-eqb _ _ ok, lt-ltb _ _ p)

    module _ (fits : f + F s (h + d) ≤ l.frames) where
      -- what is left to be tested
      pub later : delivery_refusal l k type f h d n ≡ first_refusal l.refusal 0 false (leb (frame_length s) h) (ltb 0 (F s (h + d))) (ltb (n / row_size) (f + F s (h + d)))
      unfolding delivery_refusal
      later = rw (eq-eqb _ _ ok, le-ltb _ _ fits)

      pub nine : frame_length s ≤ h → delivery_refusal l k type f h d n ≡ 9
      unfolding delivery_refusal
      nine p = rw (eq-eqb _ _ ok, le-ltb _ _ fits, le-leb _ _ p)

      module _ (few : h < frame_length s) where
        pub seven : 0 < F s (h + d) → n / row_size < f + F s (h + d) → delivery_refusal l k type f h d n ≡ 7
        unfolding delivery_refusal
        seven p q = rw (eq-eqb _ _ ok, le-ltb _ _ fits, lt-leb _ _ few, lt-ltb _ _ p, lt-ltb _ _ q)

        pub room : 0 < F s (h + d) → f + F s (h + d) ≤ n / row_size → delivery_refusal l k type f h d n ≡ 0
        unfolding delivery_refusal
        room p q = rw (eq-eqb _ _ ok, le-ltb _ _ fits, lt-leb _ _ few, lt-ltb _ _ p, le-ltb _ _ q)

        pub none : F s (h + d) ≤ 0 → delivery_refusal l k type f h d n ≡ 0
        unfolding delivery_refusal
        none p = rw (eq-eqb _ _ ok, le-ltb _ _ fits, lt-leb _ _ few, le-ltb _ _ p)

-- what is known of a delivery that is not refused
pub record Passed (l : Limit ℕ) (s : Settings) (f h d n : ℕ) : Type 0 where
  pub ok : settings_no s ≡ 0
  pub fits : f + F s (h + d) ≤ l.frames
  pub few : h < frame_length s
  pub room : 0 < F s (h + d) → (f + F s (h + d)) * row_size ≤ n

pub passed : (l : Limit ℕ) (k : TrackSettings) (type : ℤ) (f h d n : ℕ) → (l.refusal ≡ 0 → ⊥) → delivery_refusal l k type f h d n ≡ 0 → Passed l (stored_settings k) f h d n
passed l k type f h d n refuses e =
    let s = stored_settings k in
    let ok : track_settings_no k type ≡ 0 =
    ⊎_elim (λ p. p) (λ p. absurd (p (omega (arith, bad l k type f h d n p)))) (eq_or_ne (track_settings_no k type) 0) in
    let fits : f + F s (h + d) ≤ l.frames =
    ⊎_elim (λ p. absurd (refuses (sym (over l k type f h d n ok p) ∙ e))) (λ p. p) (lt_or_le l.frames (f + F s (h + d))) in
    let few : h < frame_length s =
    ⊎_elim (λ p. p) (λ p. absurd (omega (arith, nine l k type f h d n ok fits p))) (lt_or_le h (frame_length s)) in
    record {
      ok = known k type ok;
      fits = fits;
      few = few;
      room =
          λ q. ⊎_elim (λ p. absurd (omega (arith, seven l k type f h d n ok fits few q p))) (λ p. omega arith)
          (lt_or_le (n / row_size) (f + F s (h + d)));
    }
