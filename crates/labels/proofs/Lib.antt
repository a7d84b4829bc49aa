pub mod Labels
pub mod Samples
