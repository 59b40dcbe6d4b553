pub mod PiecesTaken
pub mod OneState
pub mod FirstLines
