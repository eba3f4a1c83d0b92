-- Laws of a track's settings: sizes and refusals 1 to 3 do not depend on the second threshold, and what accepted ones say.
use Rattle.std.specs.Prelude.{◌≡◌, Bool, ℤ, pos, refl, true, false, cond, eqb}
use Rattle.std.proofs.Common.{eqb-true, sym}
use Rattle.pitch_settings.specs.declared.Settings.{Settings}
use Rattle.pitch_settings.specs.Settings.{settings_no, frame_length}
use Rattle.speech_threshold.specs.Threshold.{in_range, threshold_no}
use Rattle.track_settings.specs.declared.SecondThreshold.{SecondThreshold}
use Rattle.track_settings.specs.declared.SecondThreshold.TheVariants.{Fixed, FromSpeech}
use Rattle.track_settings.specs.declared.TrackSettings.{TrackSettings}
use Rattle.track_settings.specs.TrackSettings.{stored_settings, row_settings, second_no, track_settings_no, fixed_settings}

module _ (k : TrackSettings) (type : ℤ) where
  pub row_no : settings_no (row_settings k type) ≡ settings_no (stored_settings k)
  unfolding settings_no row_settings stored_settings
  row_no = refl

  pub row_length : frame_length (row_settings k type) ≡ frame_length (stored_settings k)
  unfolding frame_length row_settings stored_settings
  row_length = refl

  -- settings that are not refused
  pub known : track_settings_no k type ≡ 0 → settings_no (stored_settings k) ≡ 0
  unfolding track_settings_no
  known e = by (eqb (settings_no (stored_settings k)) 0) refl e
    where
      by : (b : Bool) → eqb (settings_no (stored_settings k)) 0 ≡ b → cond b (second_no k.thres2 type) (settings_no (stored_settings k)) ≡ 0 → settings_no (stored_settings k) ≡ 0
      by true p q = eqb-true (settings_no (stored_settings k)) 0 p
      by false p q = q

-- a row's type, 1 or 2, is accepted where 0 is
second_types : (t : SecondThreshold) → (second_no t (pos 1) ≡ second_no t (pos 0)) × (second_no t (pos 2) ≡ second_no t (pos 0))
unfolding threshold_no in_range
second_types (Fixed thres2) = (refl, refl)
second_types (FromSpeech m) = (refl, refl)

pub types : (k : TrackSettings) → (track_settings_no k (pos 1) ≡ track_settings_no k (pos 0)) × (track_settings_no k (pos 2) ≡ track_settings_no k (pos 0))
unfolding track_settings_no
types k = (rw (second_types k.thres2).0, rw (second_types k.thres2).1)

-- a track with a fixed threshold: that is the one stored and the one of every row, and nothing is refused but the settings
module _ (s : Settings) where
  pub fixed_stored : stored_settings (fixed_settings s) ≡ s
  unfolding stored_settings
  fixed_stored = refl

  pub fixed_row : (type : ℤ) → row_settings (fixed_settings s) type ≡ s
  unfolding row_settings
  fixed_row type = refl

  pub fixed_no : (type : ℤ) → track_settings_no (fixed_settings s) type ≡ settings_no s
  unfolding track_settings_no stored_settings
  fixed_no type = by (eqb (settings_no s) 0) refl
    where
      by : (b : Bool) → eqb (settings_no s) 0 ≡ b → cond b 0 (settings_no s) ≡ settings_no s
      by true p = sym (eqb-true (settings_no s) 0 p)
      by false p = refl
