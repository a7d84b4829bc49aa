pub mod Claims
pub mod Waits
