pub mod Levels
pub mod FewOnes
pub mod NormalCosts
pub mod ShortSteps
pub mod ShapedEnds
pub mod OneMore
