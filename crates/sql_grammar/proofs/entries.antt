pub mod EntryCounts
pub mod EntryLists
pub mod EntryTexts
pub mod FewFactored
pub mod FewSpelled
pub mod EverywhereQueries
pub mod EverywhereTrees
pub mod Fits
