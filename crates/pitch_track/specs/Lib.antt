-- What one call of a track says: `Step`.
pub mod Step
