pub mod Bytes
pub mod Evaluation
pub mod Functions
pub mod Skipping
pub mod Calls
pub mod Samples
