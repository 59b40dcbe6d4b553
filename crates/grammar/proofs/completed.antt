pub mod Fillings
pub mod PrefixCompletions
pub mod ComputedCompletions
pub mod SamePrefixes
pub mod SameCosts
pub mod Costs
