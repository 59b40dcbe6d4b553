pub mod Costs
pub mod Proving
