pub mod RuleKinds
pub mod Fitting
pub mod StepSizes
pub mod Promised
pub mod Outcomes
pub mod Reach
pub mod Costs
