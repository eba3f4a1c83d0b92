-- Stage 2 of the pitch analyser. Definitions: `Scores`, `Stage2`; the answer in words: `Meaning`, shown in `MeaningLaws`; between the functions: `Search`.
pub mod Scores
pub mod Stage2
pub mod Meaning
pub mod Search
pub mod ScoreLaws
pub mod SearchLaws
pub mod NumberLaws
pub mod MeaningLaws
