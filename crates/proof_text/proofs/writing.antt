pub mod LineBounds
pub mod LongTexts
pub mod Sending
pub mod TextsAt
