pub mod Circle
pub mod Turns
pub mod Planes
pub mod Claims
