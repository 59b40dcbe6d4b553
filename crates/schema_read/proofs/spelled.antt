pub mod StatementParts
pub mod StatementColumns
pub mod StatementPrefixes
pub mod StatementKnown
pub mod FewColumns
pub mod FewStatements
pub mod Unlimited
