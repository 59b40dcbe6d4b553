pub mod CopiedParts
pub mod CountSteps
pub mod CountsApart
pub mod StatementCopies
pub mod StatementCounts
