pub mod Shapes
pub mod Matching
pub mod Rows
pub mod Meeting
pub mod Order
pub mod Pairs
pub mod Sums
pub mod Costs
