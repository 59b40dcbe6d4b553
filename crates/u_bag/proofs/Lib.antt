pub mod products
pub mod pairing
pub mod costs
