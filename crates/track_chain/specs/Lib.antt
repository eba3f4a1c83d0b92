-- A chain of deliveries: `Chain` has the claim over a list of them, `Meaning` what each row says.
pub mod Chain
pub mod Meaning
