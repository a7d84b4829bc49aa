pub mod Heads
pub mod Shown
pub mod Found
pub mod Claims
