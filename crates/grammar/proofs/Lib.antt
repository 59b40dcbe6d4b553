pub mod languages
pub mod factorings
pub mod readers
pub mod completed
