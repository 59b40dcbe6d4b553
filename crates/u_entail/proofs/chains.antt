pub mod Leading
pub mod Exchanged
pub mod Links
pub mod Flat
pub mod Followed
pub mod Gained
pub mod Chained
pub mod Along
