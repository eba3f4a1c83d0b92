-- The refusals of a delivery. Definitions: `Refusal`; laws: `RefusalLaws`.
pub mod Refusal
pub mod RefusalLaws
