pub mod WordForms
pub mod Searched
pub mod Provings
pub mod SmallCases
