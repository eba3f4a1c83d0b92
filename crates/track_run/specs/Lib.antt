-- A whole run: `Run`.
pub mod Run
