pub mod Cycles
pub mod Phases
pub mod Traces
pub mod Drives
pub mod Claims
