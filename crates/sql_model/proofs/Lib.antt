pub mod Names
pub mod SameTrees
pub mod SetOperators
pub mod Existence
pub mod Relations
pub mod SelectStar
pub mod Meets
pub mod Equivalence
