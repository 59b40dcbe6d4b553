pub mod Vanishings
pub mod KnownParts
pub mod Largeness
