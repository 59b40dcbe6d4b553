pub mod Places
pub mod OverEarlier
pub mod FactorLaws
pub mod TermLaws
pub mod Weights
