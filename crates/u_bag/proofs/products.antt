pub mod Factors
pub mod Splits
pub mod Marked
pub mod Gained
