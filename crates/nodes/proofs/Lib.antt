pub mod Cells
pub mod FirstNodes
