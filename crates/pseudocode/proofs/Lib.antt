pub mod Sheets
pub mod Translation
pub mod Skipping
pub mod Fetching
pub mod Filling
pub mod Holding
pub mod Compiling
pub mod Samples
