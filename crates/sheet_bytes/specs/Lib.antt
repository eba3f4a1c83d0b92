-- Numbers in a list of bytes. Definitions: `Bytes`; laws: `BytesLaws`.
pub mod Bytes
pub mod BytesLaws
