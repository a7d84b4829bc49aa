pub mod Rows
pub mod Misfits
pub mod Among
pub mod Samples
