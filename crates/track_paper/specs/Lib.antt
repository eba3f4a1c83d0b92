-- The track on paper. Definitions: `Paper`; `Cases` has counts of frames by computation; laws: `FramesLaws` of the frames in n samples, `RowsLaws` of rows in a table, `PaperLaws` of refusals,
-- answers and samples held.
pub mod Paper
pub mod Cases
pub mod FramesLaws
pub mod RowsLaws
pub mod PaperLaws
