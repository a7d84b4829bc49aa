pub mod Spots
pub mod Found
pub mod Choices
pub mod Notes
pub mod Faults
