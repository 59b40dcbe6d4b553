pub mod OverEntries
pub mod Products
pub mod Means
