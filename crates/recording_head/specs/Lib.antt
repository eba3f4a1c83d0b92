-- The head of a recording. Definitions: `Head`; laws: `HeadLaws`; `HeadCases` has examples.
pub mod Head
pub mod HeadLaws
pub mod HeadCases
