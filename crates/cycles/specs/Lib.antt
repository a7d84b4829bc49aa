pub mod Many
pub mod Written
pub mod Preparing
pub mod Claims
