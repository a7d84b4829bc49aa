pub mod Names
pub mod Written
pub mod Compiled
pub mod Claims
