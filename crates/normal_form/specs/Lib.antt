pub mod Kinds
pub mod NormalTerms
pub mod Ways
pub mod LooseTerms
pub mod Samples
