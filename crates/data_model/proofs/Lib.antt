pub mod Sums
pub mod Points
pub mod Occurrences
pub mod Domains
