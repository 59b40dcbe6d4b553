pub mod paths
pub mod contexts
pub mod editing
pub mod steps
