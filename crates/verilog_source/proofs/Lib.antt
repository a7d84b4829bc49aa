pub mod Bytes
pub mod Compiled
pub mod Samples
