pub mod HeadingsRead
pub mod WordsPassed
pub mod StepLines
pub mod StepsAgain
pub mod TextLines
mod LineSamples
pub mod EndedLines
