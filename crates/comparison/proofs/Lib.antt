pub mod Differences
pub mod Verdicts
pub mod Samples
