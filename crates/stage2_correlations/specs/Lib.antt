-- What stage 2 measures. Definitions: `Marks`, `Correlations`; the marked lags in words: `Meaning`; the rest are what proofs need.
pub mod Marks
pub mod Meaning
pub mod MarkLaws
pub mod MeaningLaws
pub mod Correlations
pub mod Rows
pub mod RowLaws
