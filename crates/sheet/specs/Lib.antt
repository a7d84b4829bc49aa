pub mod Reading
pub mod Expression
pub mod Statement
pub mod Functions
pub mod Module
pub mod Answers
pub mod Parts
pub mod Reader
