pub mod Ends
pub mod Subterms
pub mod OneContext
pub mod Holes
pub mod Opening
pub mod Congruence
pub mod Extents
