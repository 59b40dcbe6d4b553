pub mod ReadBegins
pub mod ReadBlocks
pub mod ReadChains
pub mod ReadEntryLists
pub mod ReadFewEntries
pub mod ReadInsides
