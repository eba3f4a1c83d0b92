-- The frame: definitions in `Frame`; that its pair is carried in `VerdictLaws`; what each verdict means in `Meaning`, and that it comes exactly then in `MeaningLaws`.
pub mod Frame
pub mod Steps
pub mod FrameLaws
pub mod VerdictLaws
pub mod Meaning
pub mod MeaningLaws
