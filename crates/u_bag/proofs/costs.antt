pub mod Numbers
pub mod Weights
pub mod FactorsOf
pub mod GainedCosts
pub mod TurnedCosts
pub mod SumCosts
