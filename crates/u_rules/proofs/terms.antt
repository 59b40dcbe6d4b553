pub mod UnderSums
pub mod Measured
pub mod TableMeasures
