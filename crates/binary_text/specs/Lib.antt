pub mod BinaryText
pub mod Claims
