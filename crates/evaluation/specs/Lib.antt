pub mod Evaluation
pub mod Widths
pub mod Bytes
