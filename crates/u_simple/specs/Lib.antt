pub mod Bodies
pub mod Order
pub mod Passes
pub mod Points
pub mod Sums
pub mod Steps
