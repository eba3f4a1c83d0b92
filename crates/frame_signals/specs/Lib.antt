-- The three signals of a frame. Definitions: the working frame (`Scale`), its forms at 8 and 4 kHz (`Signals`); laws beside them.
pub mod Scale
pub mod Signals
pub mod SignalLaws
pub mod ScaleLaws
pub mod Examples
