pub mod Counting
pub mod LineAnswers
pub mod LinesCounted
pub mod OneAnswer
