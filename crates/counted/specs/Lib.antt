pub mod Counted
pub mod Claims
