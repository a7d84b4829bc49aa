pub mod Saved
pub mod Older
pub mod Claims
