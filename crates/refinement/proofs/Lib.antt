pub mod Kept
pub mod Ready
pub mod Firing
pub mod Changing
