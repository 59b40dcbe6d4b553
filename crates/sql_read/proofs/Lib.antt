pub mod code
pub mod steps
pub mod parts
pub mod agree
pub mod whole
