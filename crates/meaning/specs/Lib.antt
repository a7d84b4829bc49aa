pub mod Meaning
pub mod Thread
pub mod Waking
