-- What the bytes of a program's input say. Definitions: `Input`; laws: `InputLaws`.
pub mod Input
pub mod InputLaws
