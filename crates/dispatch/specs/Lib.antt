pub mod Dispatch
pub mod Turn
pub mod Planes
pub mod Claims
