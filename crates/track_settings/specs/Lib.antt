-- The settings of a track. Definitions: `TrackSettings`; laws: `TrackSettingsLaws`.
pub mod TrackSettings
pub mod TrackSettingsLaws
