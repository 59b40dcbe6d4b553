pub mod Kept
pub mod SidesKept
pub mod Answering
pub mod TemplatesAt
pub mod OneInstance
