pub mod LinkNumbers
pub mod Ways
pub mod Nested
pub mod Linked
pub mod Routed
