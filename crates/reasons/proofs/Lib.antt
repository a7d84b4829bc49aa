pub mod Reasons
pub mod Samples
