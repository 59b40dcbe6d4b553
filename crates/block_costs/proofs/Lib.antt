pub mod Blocks
pub mod Greatest
pub mod Totals
pub mod Permuted
