pub mod ProductSizes
pub mod Sized
pub mod SizeLaws
