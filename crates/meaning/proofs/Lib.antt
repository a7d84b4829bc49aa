pub mod Paths
pub mod Samples
pub mod Statements
pub mod Thread
pub mod Waking
pub mod Watchdog
