pub mod Samples
pub mod Calls
pub mod Watchdog
pub mod Numbers
pub mod Ruled
pub mod Laws
