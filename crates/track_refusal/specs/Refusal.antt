-- Which deliveries a running track refuses, and with which number (docs/SCOPE.md, Refusals): from the settings and the counts of its state, and a limit on its frames. Definitions only.
use Rattle.std.specs.Prelude.{Result, Ok, Err, ℕ, ◌+◌, ◌/◌, Bool, cond, ltb, leb, eqb, ℤ}
use Rattle.refusals.specs.Refusals.{refusal_number}
use Rattle.pitch_settings.specs.Settings.{frame_length}
use Rattle.track_settings.specs.declared.TrackSettings.{TrackSettings}
use Rattle.track_settings.specs.TrackSettings.{stored_settings, track_settings_no}
use Rattle.pitch_table.specs.Row.{row_size}
use Rattle.track_paper.specs.declared.Limit.{Limit}
use Rattle.track_paper.specs.Paper.{F}
use Rattle.track_refusal.specs.declared.Objection.{Objection}
use Rattle.track_refusal.specs.declared.Objection.TheVariants.{OverLimit, Refused}

-- a limit on the frames, and the number that is said beyond it
abbrev pub limit : ℕ → ℕ → Limit ℕ
limit frames number = record { frames = frames; refusal = number }

-- the number of what speaks against a delivery, by the number that is said beyond the limit; or 0
abbrev pub number_by : {A : Type 0} → ℕ → Result A Objection → ℕ
number_by over (Ok _) = 0
number_by over (Err OverLimit) = over
number_by over (Err (Refused r)) = refusal_number r

-- the order of the refusals, or 0: the settings' number (1, 2, 3 or 11) comes before the limit's, that before 9, and 9 before 7, which comes only where there are new frames
abbrev pub first_refusal : ℕ → ℕ → Bool → Bool → Bool → Bool → ℕ
first_refusal over wrong long full new short = cond (eqb wrong 0) (cond long over (cond full 9 (cond new (cond short 7 0) 0))) wrong

-- the refusal of a delivery of d samples by a state with these settings, this type of the signal before its next row, f frames and h samples held, with a table of n numbers; or 0
unfoldable pub delivery_refusal : Limit ℕ → TrackSettings → ℤ → ℕ → ℕ → ℕ → ℕ → ℕ
delivery_refusal l k type f h d n =
    let s = stored_settings k in
    first_refusal l.refusal (track_settings_no k type) (ltb l.frames (f + F s (h + d))) (leb (frame_length s) h) (ltb 0 (F s (h + d))) (ltb (n / row_size) (f + F s (h + d)))
