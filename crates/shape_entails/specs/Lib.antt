pub mod Values
pub mod ProductOf
pub mod Places
pub mod Turning
pub mod Matched
pub mod Samples
