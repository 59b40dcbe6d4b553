pub mod StepsTaken
pub mod StepsKept
pub mod Meaning
mod LimitSamples
mod ProofSamples
