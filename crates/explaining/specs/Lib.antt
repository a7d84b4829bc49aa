pub mod Explaining
pub mod Walking
pub mod Meant
