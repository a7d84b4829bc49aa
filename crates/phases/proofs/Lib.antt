pub mod Agreement
pub mod Counting
pub mod Firing
pub mod Resting
pub mod Phases
