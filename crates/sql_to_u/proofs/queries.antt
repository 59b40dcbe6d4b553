pub mod Whole
pub mod WholeSizes
pub mod QueryLaws
pub mod Wholes
