pub mod Signs
pub mod Samples
