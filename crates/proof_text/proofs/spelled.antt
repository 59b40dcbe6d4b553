pub mod NumbersAgain
pub mod TermsAgain
pub mod LinesAgain
pub mod Glyphs
pub mod TermsSpelled
pub mod LinesSpelled
pub mod OneText
