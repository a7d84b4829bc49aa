pub mod Judging
pub mod Samples
