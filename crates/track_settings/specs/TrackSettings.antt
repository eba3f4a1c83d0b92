-- The settings of a track: those of a frame, with a second threshold that is fixed or found from the speech, row by row (docs/SCOPE.md, Threshold). Definitions only.
use Rattle.std.specs.Prelude.{cond, ℕ, eqb, ℤ, pos}
use Rattle.pitch_settings.specs.declared.Settings.{Settings}
use Rattle.pitch_settings.specs.Settings.{settings_no}
use Rattle.speech_threshold.specs.Threshold.{threshold_no, threshold_value}
use Rattle.track_settings.specs.declared.SecondThreshold.{SecondThreshold}
use Rattle.track_settings.specs.declared.SecondThreshold.TheVariants.{Fixed, FromSpeech}
use Rattle.track_settings.specs.declared.TrackSettings.{TrackSettings}

-- a frame's settings: the track's, with this second threshold
abbrev pub with_threshold : TrackSettings → ℤ → Settings
with_threshold k t = record { rate = k.rate; nb = k.nb; complexity = k.complexity; thres1 = k.thres1; thres2 = t }

-- the second threshold that a sheet stores: the fixed one, or 0
abbrev pub stored_threshold : SecondThreshold → ℤ
stored_threshold (Fixed thres2) = thres2
stored_threshold (FromSpeech m) = pos 0

-- the settings that a track's sheet stores. Sizes and refusals 1 to 3 do not look at the second threshold, so they are those of these settings
unfoldable pub stored_settings : TrackSettings → Settings
stored_settings k = with_threshold k (stored_threshold k.thres2)

-- the second threshold of a row, by the type of the signal before it
abbrev pub row_threshold : SecondThreshold → ℤ → ℤ
row_threshold (Fixed thres2) type = thres2
row_threshold (FromSpeech m) type = threshold_value m.order m.activity type m.tilt

-- the settings of a row's frame
unfoldable pub row_settings : TrackSettings → ℤ → Settings
row_settings k type = with_threshold k (row_threshold k.thres2 type)

-- 11 where the threshold comes from the speech and one of its four numbers leaves its range; or 0
abbrev pub second_no : SecondThreshold → ℤ → ℕ
second_no (Fixed thres2) type = 0
second_no (FromSpeech m) type = threshold_no m.order m.activity type m.tilt

-- the order: the number of rate, subframes and complexity comes before the threshold's
abbrev pub first_settings_refusal : ℕ → ℕ → ℕ
first_settings_refusal wrong second = cond (eqb wrong 0) second wrong

-- the number of the refusal of a track's settings, with the type of the signal before its next row: 1, 2, 3, then 11; or 0
unfoldable pub track_settings_no : TrackSettings → ℤ → ℕ
track_settings_no k type = first_settings_refusal (settings_no (stored_settings k)) (second_no k.thres2 type)

-- the settings of a track whose second threshold is fixed
abbrev pub fixed_settings : Settings → TrackSettings
fixed_settings s = record { rate = s.rate; nb = s.nb; complexity = s.complexity; thres1 = s.thres1; thres2 = Fixed s.thres2 }
