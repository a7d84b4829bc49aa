pub mod Lengths
pub mod Runs
pub mod Comments
pub mod Tables
pub mod Digits
pub mod Bases
pub mod Pieces
pub mod Samples
