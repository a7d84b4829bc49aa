pub mod Answers
pub mod Samples
pub mod Refused
