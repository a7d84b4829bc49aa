pub mod Noting
pub mod Threads
pub mod Claims
