pub mod Turning
pub mod Moving
pub mod Held
