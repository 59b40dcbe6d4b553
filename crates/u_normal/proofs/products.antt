pub mod Nodes
pub mod Loads
pub mod Takings
pub mod Merges
pub mod Finishes
pub mod Blocks
