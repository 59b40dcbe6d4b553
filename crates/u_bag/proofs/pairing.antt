pub mod Ordered
pub mod Meets
pub mod Partners
pub mod SumBlocks
pub mod Paired
