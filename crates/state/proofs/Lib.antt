pub mod Accessors
pub mod Rows
