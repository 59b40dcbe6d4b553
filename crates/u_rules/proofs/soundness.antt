pub mod Signs
pub mod Nested
pub mod KeyedTables
pub mod Columns
pub mod FactsAt
pub mod Walk
pub mod Sound
pub mod Theorem
