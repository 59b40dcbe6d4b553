pub mod Words
pub mod Proving
pub mod SmallCases
