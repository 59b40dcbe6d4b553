pub mod Bytes
pub mod Lexemes
pub mod Classes
pub mod Gaps
pub mod Faults
pub mod Tokens
pub mod Front
pub mod Lexing
