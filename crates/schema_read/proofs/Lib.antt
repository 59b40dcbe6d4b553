pub mod built
pub mod agree
pub mod spelled
pub mod counts
