pub mod Cells
pub mod Uses
pub mod Infix
pub mod Dot
