pub mod Settles
pub mod Potential
pub mod Plain
