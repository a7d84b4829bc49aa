pub mod Rows
pub mod Constants
pub mod Exprs
pub mod Following
pub mod Claims
