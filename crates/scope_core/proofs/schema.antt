pub mod ViewTrees
pub mod Relations
pub mod SoundTrees
pub mod FittingTrees
pub mod AnswersFit
pub mod Schemas
