-- Laws of the program's text: the samples left, the text of a refusal and of a report, and the rows of a fresh track.
use Rattle.std.specs.Prelude.{◌≡◌, refl, Bool, true, false, cond, List, ◌++◌, ℕ, ◌+◌, ◌-◌, ◌*◌, ◌/◌, ◌≤◌, ◌<◌, ltb, eqb, ℤ, pos, length, drop}
use Rattle.std.proofs.Common.{◌∙◌, ap, zero-add, arith, le-ltb, eq-eqb, ne_eqb}
use Rattle.std.proofs.lemmas.Bool.{lt-leb}
use Rattle.track_settings.specs.declared.TrackSettings.{TrackSettings}
use Rattle.track_settings.specs.TrackSettings.{stored_settings, track_settings_no}
use Rattle.track_settings.specs.TrackSettingsLaws.{known}
use Rattle.recording_head.specs.declared.Head.{Head}
use Rattle.recording_head.specs.Head.{head_settings}
use Rattle.pitch_recording.specs.Recording.{program_frames, recording_numbers, samples_in, recording_no}
use Rattle.pitch_settings.specs.declared.Settings.{Settings}
use Rattle.pitch_settings.specs.Settings.{frame_length, hop_length}
use Rattle.pitch_settings.specs.SettingsLaws.{accepted_settings}
use Rattle.pitch_table.specs.Row.{row_size, most_frames, row_at}
use Rattle.pitch_text.specs.Text.{refused_text}
use Rattle.track_paper.specs.Paper.{F, no_previous, paper_row, paper_numbers, paper_table}
use Rattle.track_paper.specs.RowsLaws.{row_in, row_read}
use Rattle.track_refusal.specs.Refusal.{delivery_refusal}
use Rattle.pitch_track.specs.Step.{start_call, fresh_track, delivery_no, pending, accepted_delivery, deliver_call, DeliveryOutcome}
use Rattle.pitch_track.proofs.Deliver.{accepts}
use Rattle.track_text.specs.Program.{Tracked, samples_left, track_report, track_text}

pub left_within : (s : Settings) (n : ℕ) → samples_left s n ≤ n
unfolding samples_left
left_within s n = by (eqb (F s n) 0)
  where
    by : (b : Bool) → cond b n (n - ((F s n - 1) * hop_length s + frame_length s)) ≤ n
    by true = omega arith
    by false = omega arith

-- ---- the text
module _ (head : Head) (b : List ℕ) where
  pub text_refused : (n : ℕ) → n ≡ recording_no head b → (n ≡ 0 → ⊥) → refused_text n ≡ track_text head b
  unfolding track_text
  text_refused n e h = rw (← e, ne_eqb n 0 h)

  pub text_report : recording_no head b ≡ 0 → track_report (head_settings head b) (samples_in head b) ≡ track_text head b
  unfolding track_text
  text_report e = rw (eq-eqb (recording_no head b) 0 e)

-- ---- the rows of a fresh track

either_way : (b : Bool) → ◌≡◌ {A = ℕ} (cond b 0 0) 0
either_way true = refl
either_way false = refl

module _ (k : TrackSettings) (t x : List ℤ) (e : track_settings_no k (pos 0) ≡ 0) (few : F (stored_settings k) (length x) ≤ program_frames) (room : recording_numbers ≤ length t) where
  abbrev s : Settings
  s = stored_settings k

  -- a fresh track takes up to the frames that a program takes
  taken : delivery_no (fresh_track k) t x ≡ 0
  unfolding fresh_track delivery_refusal
  taken =
      let a = accepted_settings s (known k (pos 0) e) in
      let f : F s (length x) ≤ length t / row_size = omega arith in
      let c : F s (length x) ≤ most_frames = omega arith in
      let p : 0 < frame_length s = omega (arith, a.some, a.within) in
      rw (eq-eqb (track_settings_no k (pos 0)) 0 e, zero-add (length x), zero-add (F s (length x)), le-ltb most_frames (F s (length x)) c, lt-leb (frame_length s) 0 p, le-ltb (length t / row_size) (F s (length x)) f)
      (either_way (ltb 0 (F s (length x))))

  pub tracked : (d : DeliveryOutcome) → d ≡ deliver_call (start_call k).track t x → Tracked k x t d.delivered.track.frames d.table
  unfolding start_call fresh_track accepted_delivery pending paper_table
  tracked d g =
      let m = F s (0 + length x) in
      let o = g ∙ accepts (fresh_track k) t x taken in
      let n : m ≡ F s (length x) = ap (F s) (zero-add (length x)) in
      let q : 0 + m ≡ F s (length x) = zero-add m ∙ n in
      record {
        count = ap (λ (v : DeliveryOutcome). v.delivered.track.frames) o ∙ q;
        rows = ap (λ (v : DeliveryOutcome). v.table) o ∙ (λ i. paper_numbers k x no_previous (n i) ++ drop (q i * row_size) t);
      }

-- row i of the table that is left
pub tracked_row : (k : TrackSettings) (x t : List ℤ) (f : ℕ) (u : List ℤ) → Tracked k x t f u → (i : ℕ) → i < f → row_at u i ≡ paper_row k x no_previous i
unfolding paper_table
tracked_row k x t f u g i h =
    let n = F (stored_settings k) (length x) in
    ap (λ (l : List ℤ). row_at l i) g.rows ∙ row_read _ i _ (row_in k x no_previous n i (drop (n * row_size) t) (omega (arith, g.count)))
