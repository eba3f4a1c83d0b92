-- Stage 1 of the pitch analyser. Definitions: `Stage1`; the answer in words: `Meaning`, shown in `MeaningLaws`; between the functions: `Steps`; what callers use: `AnswerLaws`.
pub mod Stage1
pub mod Meaning
pub mod Steps
pub mod ScoreLaws
pub mod KeptLaws
pub mod PlaceLaws
pub mod MeaningLaws
pub mod AnswerLaws
