pub mod Order
pub mod Keys
pub mod Tables
pub mod Indexes
pub mod Faults
pub mod ForeignKeys
pub mod Declarations
pub mod Builds
pub mod Fits
pub mod SchemaFacts
pub mod Building
pub mod Sets
pub mod Known
pub mod Views
mod Samples
mod StatementSamples
pub mod StatementTrees
pub mod StatementGrammar
pub mod Statements
pub mod StatementLookahead
pub mod StatementLimits
pub mod FewEntries
pub mod StatementReaders
pub mod CopiedStatements
pub mod Counting
pub mod ReadingStatements
