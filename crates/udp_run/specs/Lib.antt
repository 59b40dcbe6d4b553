pub mod Limits
pub mod Cases
pub mod Proofs
pub mod Output
pub mod Answer
pub mod Runs
