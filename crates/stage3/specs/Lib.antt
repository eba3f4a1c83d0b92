-- Stage 3 of the pitch analyser. Definitions: `Pick`, `Stage3`; the answer in words: `Meaning`, shown in `MeaningLaws`; what private contracts cite: `Search`; the rest are laws.
pub mod Pick
pub mod Stage3
pub mod Meaning
pub mod Search
pub mod PickLaws
pub mod SearchLaws
pub mod NumberLaws
pub mod MeaningLaws
