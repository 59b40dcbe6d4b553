pub mod Added
pub mod Signatures
pub mod Waiting
