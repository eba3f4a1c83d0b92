-- What the program `sheet_read` prints. Definitions: `Program`, and `Meaning`, what the text says by what a sheet holds; laws: `ProgramLaws`, `MeaningLaws`; `ProgramCases` has examples.
pub mod Program
pub mod ProgramLaws
pub mod Meaning
pub mod MeaningLaws
pub mod ProgramCases
