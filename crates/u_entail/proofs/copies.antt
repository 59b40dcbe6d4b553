pub mod Doubled
pub mod Carried
pub mod Copied
