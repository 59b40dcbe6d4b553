pub mod terms
pub mod products
pub mod derivations
pub mod shapes
pub mod costs
