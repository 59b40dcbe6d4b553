pub mod Arguments
pub mod Keeps
pub mod OneResult
pub mod Soundness
pub mod StepHeights
pub mod Applied
pub mod Lines
pub mod OutlinesAt
pub mod Spent
mod StepSamples
