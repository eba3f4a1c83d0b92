-- A recording as an input. Definitions: `Recording`; laws: `RecordingLaws`; `RecordingCases` has examples.
pub mod Recording
pub mod RecordingLaws
pub mod RecordingCases
