pub mod Lists
pub mod Numbers
pub mod Rows
pub mod Counts
pub mod Reading
pub mod Database
