pub mod Built
pub mod Places
pub mod Wide
pub mod SameRows
pub mod Frames
pub mod RowsFit
