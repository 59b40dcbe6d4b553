pub mod meaning
pub mod names
pub mod sizes
pub mod terms
pub mod queries
