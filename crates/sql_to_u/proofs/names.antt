pub mod Seeing
pub mod Closed
pub mod FreeNames
