pub mod Sizes
pub mod Found
