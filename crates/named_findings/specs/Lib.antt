pub mod Findings
pub mod Items
pub mod Claims
