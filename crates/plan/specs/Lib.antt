pub mod Sections
pub mod Plan
