pub mod Factors
pub mod TermShape
pub mod BlockTerms
pub mod FewOnes
pub mod Walks
pub mod Samples
