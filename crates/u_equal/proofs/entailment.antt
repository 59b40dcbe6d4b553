pub mod Sound
pub mod Complete
pub mod Answered
pub mod Entailed
