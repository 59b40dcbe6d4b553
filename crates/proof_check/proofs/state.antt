pub mod Feeding
pub mod SizedTerms
pub mod KeptLines
pub mod KeptSteps
pub mod KeptHeading
pub mod KeptState
