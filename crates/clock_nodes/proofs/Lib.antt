pub mod Turns
pub mod Reaching
pub mod Worth
pub mod Copied
pub mod Lows
pub mod Ranges
