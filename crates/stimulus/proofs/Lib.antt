pub mod Runs
pub mod Digits
pub mod Lines
pub mod Accepted
pub mod Naming
pub mod Samples
pub mod Searching
