pub mod Readers
pub mod Marking
pub mod Watching
pub mod Placing
pub mod Holding
pub mod Samples
