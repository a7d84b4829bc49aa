pub mod Prepared
pub mod Claims
