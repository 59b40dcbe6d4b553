pub mod Derivations
pub mod Turning
pub mod Walking
pub mod Lifting
pub mod Moving
pub mod Samples
