pub mod WholeQueries
pub mod WholeTexts
