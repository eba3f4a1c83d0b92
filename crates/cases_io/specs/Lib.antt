-- What a list of cases holds, as functions of its bytes, and what replaying it counts. Definitions: `Little`, `Counts`; laws: `LittleLaws`, `CountsLaws`.
pub mod Little
pub mod LittleLaws
pub mod Counts
pub mod CountsLaws
pub mod Lines
pub mod LinesLaws
pub mod Replay
pub mod ReplayLaws
