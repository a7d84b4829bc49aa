pub mod Filling
pub mod Holding
