pub mod Names
pub mod Cursor
pub mod Refusals
pub mod Unquoting
pub mod Eating
pub mod Readers
