pub mod soundness
pub mod arguments
pub mod multisets
pub mod terms
