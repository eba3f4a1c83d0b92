-- Rows of a table. Definitions: `Row`; laws: `RowLaws`.
pub mod Row
pub mod RowLaws
