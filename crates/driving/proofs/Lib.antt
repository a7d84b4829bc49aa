pub mod Endings
pub mod Plans
pub mod Samples
pub mod Claims
