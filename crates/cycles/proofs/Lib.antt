pub mod Masks
pub mod Writing
pub mod Sheets
pub mod Preparing
pub mod Rows
pub mod Claims
