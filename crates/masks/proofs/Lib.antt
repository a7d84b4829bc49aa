pub mod Digits
pub mod Masks
pub mod Loops
pub mod Samples
