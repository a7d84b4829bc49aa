pub mod Loops
pub mod Judged
pub mod Fitting
