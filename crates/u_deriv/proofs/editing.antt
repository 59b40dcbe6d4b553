pub mod Edited
pub mod Made
pub mod Exchanges
