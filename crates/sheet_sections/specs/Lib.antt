-- A sheet's bytes. Definitions: `Sheet`; laws: `SheetLaws`, and of one row's bytes `RowBytesLaws`.
pub mod Sheet
pub mod SheetLaws
pub mod RowBytesLaws
