pub mod Returned
pub mod Tree
pub mod Claims
