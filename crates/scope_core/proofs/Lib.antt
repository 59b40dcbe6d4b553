pub mod basics
pub mod resolving
pub mod well_formed
pub mod rows
pub mod trees
pub mod schema
