-- The second threshold from the speech itself. Definitions: `Threshold`; `Cases` has worked cases by computation; laws: `ThresholdLaws` (the value in range is one exact sum, from 1523 to 5734).
pub mod Threshold
pub mod Cases
pub mod ThresholdLaws
