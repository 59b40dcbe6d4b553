pub mod products
pub mod substitution
pub mod sizes
pub mod chains
pub mod copies
