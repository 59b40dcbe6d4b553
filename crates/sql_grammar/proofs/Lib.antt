pub mod lists
pub mod factored
pub mod queries
pub mod copies
pub mod entries
