pub mod Elsewhere
pub mod Chains
pub mod Rooted
pub mod Fixed
