-- What the program `frames` prints for a record. Definitions: `Frames`; laws: `FramesLaws`; `FramesCases` has examples.
pub mod Frames
pub mod FramesLaws
pub mod FramesCases
