pub mod Lists
pub mod Spines
pub mod Plain
pub mod Behind
pub mod Parts
pub mod Negated
