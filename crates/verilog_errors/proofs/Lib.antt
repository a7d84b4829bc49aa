pub mod Spotting
pub mod Choosing
pub mod Noting
pub mod Faulting
