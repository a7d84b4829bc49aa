pub mod Reach
pub mod Copying
pub mod Rows
