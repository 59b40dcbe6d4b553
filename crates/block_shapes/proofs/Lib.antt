pub mod ClassLaws
pub mod DrawnShapes
pub mod PlainTrees
