pub mod Alike
pub mod Factorings
