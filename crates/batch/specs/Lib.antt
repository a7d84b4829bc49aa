pub mod Cycles
pub mod Refused
