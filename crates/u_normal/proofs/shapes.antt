pub mod SaidAgain
pub mod TidiedBlocks
pub mod ShapedSums
