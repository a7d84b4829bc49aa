pub mod Settle
pub mod Potential
pub mod Marks
pub mod Course
pub mod Plain
pub mod Samples
