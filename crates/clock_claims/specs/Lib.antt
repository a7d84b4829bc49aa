pub mod Traced
pub mod Claims
