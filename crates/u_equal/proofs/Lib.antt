pub mod edges
pub mod entailment
pub mod congruence
pub mod products
pub mod links
