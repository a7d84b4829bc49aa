pub mod Table
pub mod Values
pub mod Exprs
pub mod Marks
pub mod Follows
pub mod Reading
pub mod Samples
