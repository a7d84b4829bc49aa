pub mod Sections
pub mod Waiting
pub mod Terms
