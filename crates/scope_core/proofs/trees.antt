pub mod SoundParts
pub mod Soundness
pub mod PlainTrees
pub mod Shapes
pub mod SymbolLaws
