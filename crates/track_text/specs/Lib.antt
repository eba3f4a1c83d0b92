-- What the programs `track` and `track_options` print. Definitions: `Program`; laws: `ProgramLaws`; `ProgramCases` has examples.
pub mod Program
pub mod ProgramLaws
pub mod ProgramCases
