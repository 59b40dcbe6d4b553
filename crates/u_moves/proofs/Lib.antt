pub mod contexts
pub mod steps
pub mod derivations
