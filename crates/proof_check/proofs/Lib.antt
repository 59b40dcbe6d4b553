pub mod accepted
pub mod texts
pub mod state
