pub mod Blocks
pub mod Drawn
pub mod Classes
pub mod Samples
