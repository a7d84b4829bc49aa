pub mod Cells
pub mod Uses
pub mod Infix
pub mod Occurrences
pub mod Trees
pub mod Samples
