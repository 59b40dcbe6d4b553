pub mod Merges
pub mod Entries
pub mod Known
pub mod Searches
pub mod Answers
