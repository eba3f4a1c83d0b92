-- The laws of a run: what is left of it while it goes on, and what it has left at its end.
pub mod Ahead
