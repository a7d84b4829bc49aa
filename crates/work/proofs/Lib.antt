pub mod Readers
pub mod Turns
pub mod Storing
pub mod Enough
pub mod Work
pub mod Watchdog
pub mod Samples
