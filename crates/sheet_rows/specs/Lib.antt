-- Rows that a sheet can hold. Definitions: `Rows`; laws: `RowsLaws`.
pub mod Rows
pub mod RowsLaws
