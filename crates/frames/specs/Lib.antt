-- What the program prints. Definitions: `Output`; laws: `OutputLaws`.
pub mod Output
pub mod OutputLaws
