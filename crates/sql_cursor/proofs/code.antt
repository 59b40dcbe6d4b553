pub mod Cursors
pub mod Extending
pub mod Numbered
pub mod Unquoting
