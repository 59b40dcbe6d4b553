pub mod Labels
pub mod Counts
pub mod Relabelled
pub mod Reaches
pub mod Pushed
pub mod Trees
pub mod Moves
