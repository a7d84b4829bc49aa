pub mod Naming
pub mod Samples
