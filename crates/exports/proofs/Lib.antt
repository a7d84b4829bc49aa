pub mod Clocked
pub mod Exports
pub mod PlanClaims
pub mod Plans
pub mod Refused
pub mod Saved
pub mod Telling
