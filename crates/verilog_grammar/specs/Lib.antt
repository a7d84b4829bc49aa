pub mod AnnexA
pub mod Conditions
pub mod Meaning
pub mod Reader
pub mod Claims
