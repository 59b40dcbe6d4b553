-- The U-expression of a resolved tree, in the order in which the files are read: what terms are built of, the names around a place, the
-- translation itself, and which terms are too big. The rest is about sizes and lists as code has them.
pub mod Factors
pub mod Scopes
pub mod Translation
pub mod Answer
pub mod Limits
pub mod Sizes
pub mod Listed
pub mod BlockSizes
pub mod Reckoned
pub mod TermLists
pub mod samples
