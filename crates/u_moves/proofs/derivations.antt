pub mod Sound
pub mod Showing
pub mod Lines
pub mod Plain
pub mod Made
pub mod Whole
