-- Each finished row says what `specs/Meaning` states: from the theorem of the frame, at the row's own samples and what the row before it left.
use Rattle.std.proofs.Common.{◌≡◌, refl, sym, ap, ◌∙◌, List, ◌∷◌, ◌⊎◌, inl, inr, ℕ, zero, suc, ◌+◌, ◌*◌, ◌≤◌, ◌<◌, arith, ℤ, pos, nat_abs, length, take, drop, length-drop, replicate, length-take-le}
use Rattle.pitch_settings.specs.declared.Settings.{Settings}
use Rattle.pitch_settings.specs.Settings.{settings_no, frame_length, hop_length}
use Rattle.pitch_settings.specs.SettingsLaws.{accepted_settings}
use Rattle.track_settings.specs.declared.TrackSettings.{TrackSettings}
use Rattle.track_settings.specs.TrackSettings.{stored_settings, row_settings}
use Rattle.track_settings.specs.TrackSettingsLaws.{row_no, row_length}
use Rattle.pitch_table.specs.Row.{numbers, pair_lag, voiced_row, unpitched_row}
use Rattle.pitch_table.specs.RowLaws.{pair_lag_in, pair_lag_past}
use Rattle.silk_tables.specs.Rebuild.{rebuilt}
use Rattle.silk_pitch_analysis.specs.declared.Verdict.{Verdict}
use Rattle.silk_pitch_analysis.specs.declared.Verdict.TheVariants.{Voiced, Unvoiced, ZeroDivisor}
use Rattle.silk_pitch_analysis.specs.Frame.{row_from, frame_row, verdict_of}
use Rattle.silk_pitch_analysis.specs.Meaning.{VerdictExactly}
use Rattle.silk_pitch_analysis.specs.MeaningLaws.{verdict_exactly}
use Rattle.track_paper.specs.Paper.{no_previous, frames_done, window, previous, paper_row}
use Rattle.track_chain.specs.Meaning.{subframe_lag, RowSays}
use Rattle.track_paper.specs.declared.Prev.{Prev}
use Rattle.track_paper.specs.PaperLaws.{whole_frame}

apart : (m n : ℕ) → (m ≡ n → ⊥) → ◌≡◌ {A = ℤ} (pos m) (pos n) → ⊥
apart m n h e = h (ap nat_abs e)

-- what the row's verdict says of the frame's
module _ (s : Settings) where
  one_of : (v : Verdict) → ((row_from s v).verdict ≡ pos 0) ⊎ (((row_from s v).verdict ≡ pos 1) ⊎ ((row_from s v).verdict ≡ pos 2))
  unfolding row_from voiced_row unpitched_row
  one_of (Voiced i c r) = inl refl
  one_of Unvoiced = inr (inl refl)
  one_of ZeroDivisor = inr (inr refl)

  is_voiced : (v : Verdict) → (row_from s v).verdict ≡ pos 0 → v ≡ Voiced (row_from s v).index (row_from s v).contour (row_from s v).correlation
  unfolding row_from voiced_row unpitched_row
  is_voiced (Voiced i c r) e = refl
  is_voiced Unvoiced e = absurd (apart 1 0 (λ k. omega arith) e)
  is_voiced ZeroDivisor e = absurd (apart 2 0 (λ k. omega arith) e)

  is_unvoiced : (v : Verdict) → (row_from s v).verdict ≡ pos 1 → v ≡ Unvoiced
  unfolding row_from voiced_row unpitched_row
  is_unvoiced (Voiced i c r) e = absurd (apart 0 1 (λ k. omega arith) e)
  is_unvoiced Unvoiced e = refl
  is_unvoiced ZeroDivisor e = absurd (apart 2 1 (λ k. omega arith) e)

  is_zero : (v : Verdict) → (row_from s v).verdict ≡ pos 2 → v ≡ ZeroDivisor
  unfolding row_from voiced_row unpitched_row
  is_zero (Voiced i c r) e = absurd (apart 0 2 (λ k. omega arith) e)
  is_zero Unvoiced e = absurd (apart 1 2 (λ k. omega arith) e)
  is_zero ZeroDivisor e = refl

-- the lag places: of a voiced row the pair's lags, of another 0
voiced_lag : (s : Settings) (i c r : ℤ) → s.nb ≤ 4 → (k : ℕ) → subframe_lag (voiced_row s i c r) k ≡ pair_lag s i c k
unfolding voiced_row
voiced_lag s i c r n zero = refl
voiced_lag s i c r n (suc zero) = refl
voiced_lag s i c r n (suc (suc zero)) = refl
voiced_lag s i c r n (suc (suc (suc zero))) = refl
voiced_lag s i c r n (suc (suc (suc (suc k)))) = sym (pair_lag_past s i c (suc (suc (suc (suc k)))) (omega arith))

unpitched_lag : (verdict : ℤ) (k : ℕ) → subframe_lag (unpitched_row verdict) k ≡ pos 0
unfolding unpitched_row
unpitched_lag verdict zero = refl
unpitched_lag verdict (suc zero) = refl
unpitched_lag verdict (suc (suc zero)) = refl
unpitched_lag verdict (suc (suc (suc zero))) = refl
unpitched_lag verdict (suc (suc (suc (suc k)))) = refl

past : (s : Settings) (v : Verdict) → s.nb ≤ 4 → (k : ℕ) → s.nb ≤ k → subframe_lag (row_from s v) k ≡ pos 0
unfolding row_from
past s (Voiced i c r) n k h = voiced_lag s i c r n k ∙ pair_lag_past s i c k h
past s Unvoiced n k h = unpitched_lag (pos 1) k
past s ZeroDivisor n k h = unpitched_lag (pos 2) k

lags_by : (s : Settings) (v : Verdict) → s.nb ≤ 4 → (row_from s v).verdict ≡ pos 0 → (k : ℕ) → k < s.nb
    → subframe_lag (row_from s v) k ≡ rebuilt s.rate s.nb (row_from s v).index (nat_abs (row_from s v).contour) k
unfolding row_from voiced_row unpitched_row
lags_by s (Voiced i c r) n e k h = voiced_lag s i c r n k ∙ pair_lag_in s i c k h
lags_by s Unvoiced n e k h = absurd (apart 1 0 (λ k. omega arith) e)
lags_by s ZeroDivisor n e k h = absurd (apart 2 0 (λ k. omega arith) e)

zeros_by : (s : Settings) (v : Verdict) → ((row_from s v).verdict ≡ pos 0 → ⊥) → numbers (row_from s v) ≡ (row_from s v).verdict ∷ replicate 7 (pos 0)
unfolding row_from voiced_row unpitched_row
zeros_by s (Voiced i c r) h = absurd (h refl)
zeros_by s Unvoiced h = refl
zeros_by s ZeroDivisor h = refl

-- the row of a whole frame
pub row_says : (s : Settings) (x : List ℤ) (p : Prev) → settings_no s ≡ 0 → length x ≡ frame_length s → RowSays s x p (frame_row s x p.lag p.correlation)
unfolding frame_row row_from voiced_row unpitched_row
row_says s x p h len =
    let v : Verdict = verdict_of s x p.lag p.correlation in
    let exactly : VerdictExactly s x p.lag p.correlation = verdict_exactly s x p.lag p.correlation h len in
    record {
      verdicts = one_of s v;
      voiced_only = λ e. (exactly (Voiced (row_from s v).index (row_from s v).contour (row_from s v).correlation)).0 (is_voiced s v e);
      voiced_where =
          λ i c q m.
          let e : verdict_of s x p.lag p.correlation ≡ Voiced i c q = (exactly (Voiced i c q)).1 m in
          record { verdict_is = ap (λ (u : Verdict). (row_from s u).verdict) e; index_is = ap (λ (u : Verdict). (row_from s u).index) e; contour_is = ap (λ (u : Verdict). (row_from s u).contour) e; correlation_is = ap (λ (u : Verdict). (row_from s u).correlation) e };
      unvoiced_only = λ e. (exactly Unvoiced).0 (is_unvoiced s v e);
      unvoiced_where = λ m. ap (λ (u : Verdict). (row_from s u).verdict) ((exactly Unvoiced).1 m);
      zero_only = λ e. (exactly ZeroDivisor).0 (is_zero s v e);
      zero_where = λ m. ap (λ (u : Verdict). (row_from s u).verdict) ((exactly ZeroDivisor).1 m);
      lags = λ e k l. lags_by s v (accepted_settings s h).nb_high e k l;
      no_more_lags = λ k l. past s v (accepted_settings s h).nb_high k l;
      zeros_after = λ e. zeros_by s v e;
    }

-- row i of the track on paper, for every finished frame, with the threshold that it had
pub rows_say : (k : TrackSettings) (j : List ℤ) → settings_no (stored_settings k) ≡ 0 → (i : ℕ) → i < frames_done (stored_settings k) j
    → RowSays (row_settings k (previous k j no_previous i).signal) (window (stored_settings k) j i) (previous k j no_previous i) (paper_row k j no_previous i)
unfolding window paper_row
rows_say k j h i l =
    let s = stored_settings k in
    let p = previous k j no_previous i in
    let x = take (frame_length s) (drop (i * hop_length s) j) in
    let inside : i * hop_length s + frame_length s ≤ length j = whole_frame s h j i l in
    let len : length (take (frame_length s) (drop (i * hop_length s) j)) ≡ frame_length s = length-take-le (frame_length s) (drop (i * hop_length s) j) (omega (arith, length-drop (i * hop_length s) j)) in
    row_says (row_settings k p.signal) x p (row_no k p.signal ∙ h) (len ∙ sym (row_length k p.signal))
