pub mod Bounds
pub mod Small
pub mod Basic
