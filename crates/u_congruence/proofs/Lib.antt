pub mod Turned
pub mod Pairs
