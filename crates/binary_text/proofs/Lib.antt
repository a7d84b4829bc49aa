pub mod BinaryText
pub mod Samples
