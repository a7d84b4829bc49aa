pub mod Expression
pub mod Instructions
pub mod Module
pub mod Soundness
