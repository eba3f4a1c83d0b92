-- What the programs `sheet_write` and `sheet_write_options` write. Definitions: `Program`; laws: `ProgramLaws`; `ProgramCases` has examples.
pub mod Program
pub mod ProgramLaws
pub mod ProgramCases
