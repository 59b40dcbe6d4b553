pub mod Nested
pub mod Closings
pub mod Paths
pub mod Items
pub mod Depths
