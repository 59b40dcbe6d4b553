pub mod Reads
pub mod Parts
pub mod Reading
pub mod ReadingTexts
pub mod ReadingQueries
pub mod Copied
