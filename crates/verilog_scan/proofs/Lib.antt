pub mod Spelling
pub mod Rest
pub mod Filling
