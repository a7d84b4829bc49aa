pub mod Encoding
pub mod WellFormed
pub mod Whole
