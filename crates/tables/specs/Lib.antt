pub mod Readers
pub mod Holding
