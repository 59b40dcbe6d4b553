pub mod Resolvable
pub mod Resolvability
pub mod NoFault
