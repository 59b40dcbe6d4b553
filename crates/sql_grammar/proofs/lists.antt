pub mod FirstLetters
pub mod Folding
pub mod EveryKind
pub mod KindNumbers
pub mod KindRows
pub mod KindTable
pub mod ReservedWords
