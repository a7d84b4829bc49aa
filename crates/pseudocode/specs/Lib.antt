pub mod Translation
pub mod Instruction
pub mod Skipping
pub mod Filling
pub mod Compiling
pub mod Fetching
pub mod Translated
