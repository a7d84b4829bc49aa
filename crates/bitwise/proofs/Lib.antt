pub mod Cells
pub mod Bits
pub mod Samples
