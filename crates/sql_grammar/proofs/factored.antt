pub mod Below
pub mod Insides
pub mod Items
pub mod Known
pub mod OfInsides
pub mod Parens
pub mod Rests
pub mod Words
