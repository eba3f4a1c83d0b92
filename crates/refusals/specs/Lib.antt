-- Refusals: their numbers in `Refusals`, what the numbers tell in `RefusalsLaws`.
pub mod Refusals
pub mod RefusalsLaws
