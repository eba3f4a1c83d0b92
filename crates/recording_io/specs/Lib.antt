-- What reading says. Definitions: `ReadAnswer`, `Counts`; laws: `ReadAnswerLaws`, `FilledLaws`, `KnownLaws`.
pub mod ReadAnswer
pub mod Counts
pub mod ReadAnswerLaws
pub mod FilledLaws
pub mod KnownLaws
