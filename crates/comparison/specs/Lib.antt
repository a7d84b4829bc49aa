pub mod Comparison
pub mod Verdicts
pub mod Saying
