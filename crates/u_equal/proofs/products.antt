pub mod Members
pub mod StandingAt
pub mod Fed
pub mod KeyLaws
pub mod Sides
pub mod Listed
pub mod Arguments
pub mod Made
